use Rattle.std.proofs.Common.{◌≡◌, true, length, nat_lt, sym, ap, subst, ◌∙◌, rules, arith}
use Rattle.std.proofs.lemmas.Bool.{lt-ltb}
use Rattle.std.proofs.lemmas.Result.{err_from_is_err_and}
use Rattle.hostfiles.specs.ControlBlock.{random_place_of}
use Rattle.hostfiles.specs.Files.{has}
use Rattle.hostfiles.specs.FileLooks.{HasNewAsk, KeepsAsks, look_has, look_length, look_content}
use Rattle.hostfiles.specs.declared.looks.FileLooks.{FileLooks}
use Rattle.file_calls.specs.Findings.{key_of}
use Rattle.file_calls.specs.TableView.{shape_of_key}
use Rattle.file_calls.proofs.Extending.{extends_trans, new_before, random_asks}
use Rattle.file_calls.proofs.inquiry.read_random.Goals as goal

pub returns-in_err-record-clause-asks : goal.returns-in_err-record-clause-asks
returns-in_err-record-clause-asks c =
    let e = err_from_is_err_and c.from_residual-in_err-record.result c.from_residual-in_err-record.ensures.1 in
    let host = c.args.host.now in
    let own = c.args.changes.now.journal.entries in
    let b = c.args.block.now in
    let key = key_of b in
    let place = random_place_of b.fcb in
    let file = c.find-file.ensures in
    let first = c.in_ok-ask_presence.ensures.asks in
    let second = c.in_ok-length.ensures.asks in
    let third = c.in_err-record.ensures in
    let had : c.ask_presence.new.looks ≡ look_has own key c.args.changes.now.looks = rw (file.journal, file.key, c.key-key.ensures) at first.looks in
    let measured : c.length.new.looks ≡ look_length own key c.ask_presence.new.looks = rw (file.journal, file.key, c.key-key.ensures) at second.looks in
    let there : has host own key ≡ true = rw (file.host, file.journal, file.key, c.key-key.ensures) at (sym first.answer ∙ c.if-not-branch.false) in
    let long : c.in_ok-length.field-0 ≡ length (shape_of_key host own key) = rw (file.host, file.journal, file.key, c.key-key.ensures) at second.answer in
    let below : nat_lt place (length (shape_of_key host own key)) ≡ true = lt-ltb _ _ (omega (arith, long, c.random-place.ensures.place, c.if-branch.false)) in
    let whole = ap (look_content own key place) (measured ∙ ap (look_length own key) had) ∙ sym (random_asks host own b c.args.changes.now.looks there (search rules) below) in
    let fresh : HasNewAsk c.length.new.looks (look_content own key place c.length.new.looks) = rw (file.journal, file.key, c.key-key.ensures, c.random-place.ensures.place) at third.refused in
    let few : KeepsAsks c.ask_record.new.looks (look_content own key place c.length.new.looks) = rw (file.journal, file.key, c.key-key.ensures, c.random-place.ensures.place) at third.asks.bound in
    let before = extends_trans _ _ _ first.extends second.extends in
    rw e.1 (record {
      answer = tt;
      looks = tt;
      extends = extends_trans _ _ _ before third.asks.extends;
      bound = subst (KeepsAsks c.ask_record.new.looks) whole few;
      refused = new_before _ _ _ (subst (HasNewAsk c.length.new.looks) whole fresh) before;
      stays = search rules;
    })
