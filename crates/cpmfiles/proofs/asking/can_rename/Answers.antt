use Rattle.std.proofs.Common.{◌≡◌, true, false, rules}
use Rattle.std.proofs.lemmas.Result.{err_from_is_err_and}
use Rattle.hostfiles.specs.Names.{is_sayable}
use Rattle.hostfiles.specs.Hosts.{Key}
use Rattle.hostfiles.specs.Files.{OwnFiles}
use Rattle.hostfiles.specs.FileLooks.{HasNewAsk, KeepsAsks, look_has}
use Rattle.hostfiles.specs.declared.looks.FileLooks.{FileLooks}
use Rattle.cpmfiles.specs.Tables.{look_rename}
use Rattle.cpmfiles.specs.Renaming.{has_wildcard}
use Rattle.cpmfiles.proofs.LookLaws.{new_second, within_second}
use Rattle.cpmfiles.proofs.asking.can_rename.Goals as goal

-- A rename asks about the first of its two keys.
first_key : (own : OwnFiles) (old new : Key) (l m : FileLooks) → has_wildcard old ≡ false → is_sayable new ≡ true
    → KeepsAsks l (look_has own old m) → KeepsAsks l (look_rename own old new m)
first_key own old new l m plain fit h = rw (plain, fit) (within_second own old new l m h)

first_key_new : (own : OwnFiles) (old new : Key) (l m : FileLooks) → has_wildcard old ≡ false → is_sayable new ≡ true
    → HasNewAsk l (look_has own old m) → HasNewAsk l (look_rename own old new m)
first_key_new own old new l m plain fit h = rw (plain, fit) (new_second own old new l m h)

pub returns-in_err-there-clause-inquires : goal.returns-in_err-there-clause-inquires
returns-in_err-there-clause-inquires c =
    let e = err_from_is_err_and c.from_residual.result c.from_residual.ensures.1 in
    let h = c.in_err-there.ensures in
    rw e.1 (record {
      answer = tt;
      looks = tt;
      extends = h.extends;
      bound = first_key c.args.changes.now.journal.entries c.args.old.now c.args.new.now _ _ (search rules) (search rules) (search rules);
      refused = first_key_new c.args.changes.now.journal.entries c.args.old.now c.args.new.now _ _ (search rules) (search rules) h.refused;
      stays = h.stays;
    })
