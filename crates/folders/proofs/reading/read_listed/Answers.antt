use Rattle.std.proofs.Common.{◌≡◌, ◌≢◌, ◌∙◌, refl, true, IfSome, ap, is_some, subst}
use Rattle.std.proofs.lemmas.Result.{err_from_is_err_and}
use Rattle.std.specs.FinMap.{get, contains_key}
use Rattle.filenames.specs.Names.{Key}
use Rattle.hostfiles.specs.Hosts.{Host}
use Rattle.folders.specs.FolderNames.{path_text}
use Rattle.folders.specs.Faults.{FailsBy}
use Rattle.folders.specs.FileSystem.{Path}
use Rattle.folders.specs.Folders.{FailsFile, HasBytesOf}
use Rattle.folders.proofs.FaultLemmas.{listed_fails}
use Rattle.folders.proofs.FilesLemmas.{keeps_err, keeps_same, same_files}
use Rattle.folders.proofs.ReadLemmas.{WantedOf, none_set, one_more, all_set, read_as, all_read}
use Rattle.folders.proofs.reading.read_listed.Goals as goal

pub loop-key-init : goal.loop-key-init
loop-key-init g c = (refl, none_set _ _ _)

pub loop-key-preserved : goal.loop-key-preserved
loop-key-preserved g c =
    let key = c.in-Some.key.now in
    let same : c.from_valid_key.result ≡ key = c.from_valid_key.ensures in
    let now = c.read_one.new.files in
    let listed = c.args.listing.now.files in
    let files = (g.S.FileSystem.files c.args.system.now).bytes in
    let ok = c.in_ok-read_one.ensures in (
      same_files ok.unchanged ∙ c.loop-key.invariant.0,
      one_more (WantedOf files c.args.folder.now listed) _ _ _ _ _ _ c.loop-key.invariant.1 c.in-Some.ensures.least.1 (ap is_some c.in-Some.ensures.there)
          (subst (λ (n : Key). (k : Key) → k ≢ n → get now k ≡ get c.loop-key.files k) same c.read_one.ensures.others)
          (read_as files c.args.folder.now (get listed key) c.in-Some.file.now (get now key) c.in-Some.ensures.there
          (subst (λ (n : Key). contains_key now n ≡ true) same ok.there)
          (subst (λ text. IfSome files (λ stored. HasBytesOf stored (path_text c.args.folder.now text) (get now key))) c.as_str.ensures.value
          (subst (λ (n : Key). IfSome files (λ stored. HasBytesOf stored (path_text c.args.folder.now c.as_str.result.now) (get now n))) same
          (rw c.loop-key.invariant.0 at ok.read)))),
    )

pub returns-in_err-read_one-clause-unchanged : goal.returns-in_err-read_one-clause-unchanged
returns-in_err-read_one-clause-unchanged g c =
    let left = err_from_is_err_and c.from_residual.result c.from_residual.ensures.1 in
    rw (left.1, left.2) (keeps_err c.loop-key.invariant.0 c.in_err-read_one.ensures.unchanged)

pub returns-in_err-read_one-clause-others : goal.returns-in_err-read_one-clause-others
returns-in_err-read_one-clause-others g c = rw c.in_err-read_one.ensures.err c.loop-key.invariant.1.others

pub returns-in_err-read_one-clause-fault : goal.returns-in_err-read_one-clause-fault
returns-in_err-read_one-clause-fault g c =
    let left = err_from_is_err_and c.from_residual.result c.from_residual.ensures.1 in
    let files = (g.S.FileSystem.files c.args.system.now).bytes in
    let listed = c.args.listing.now.files in
    let failure = c.in_err-read_one.field-0.0 in
    let folder = c.args.folder.now in
    let host : Host = c.loop-key.files in
    rw (left.1, left.2, c.in_err-read_one.ensures.err)
    (listed_fails files folder listed c.args.files.now c.loop-key.after host c.in-Some.key.now c.in-Some.file.now failure c.loop-key.invariant.1
    c.in-Some.ensures.least.1 c.in-Some.ensures.there
    (subst (λ (text : Path). FailsBy (FailsFile files (path_text folder text) host c.in-Some.key.now) failure) c.as_str.ensures.value
    (subst (λ (n : Key). FailsBy (FailsFile files (path_text folder c.as_str.result.now) host n) failure) c.from_valid_key.ensures
    (rw c.loop-key.invariant.0 at c.in_err-read_one.ensures.fault))))

pub returns : goal.returns
returns g c =
    let listed = c.args.listing.now.files in
    let files = (g.S.FileSystem.files c.args.system.now).bytes in record {
      others = c.loop-key.invariant.1.others;
      read = all_read files c.args.folder.now listed c.loop-key.files
          (all_set (WantedOf files c.args.folder.now listed) listed c.args.files.now c.loop-key.after c.loop-key.files c.loop-key.invariant.1 c.in_default.ensures.least);
      fault = tt;
      unchanged = keeps_same _ _ _ _ c.loop-key.invariant.0;
    }
