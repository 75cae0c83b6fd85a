-- A file system that a call leaves unchanged.
use Rattle.std.proofs.Common.{◌≡◌, List, ◌++◌, Ok, Err, ap, ◌∙◌}
use Rattle.folders.specs.Failures.{KeepsFiles}
use Rattle.folders.specs.FileSystem.{Path, StoredFiles}

-- A call that succeeds changes nothing.
pub same_files : {T E : Type 0} {reported : E → List Path} {x : T} {old new : StoredFiles} → KeepsFiles reported (Ok x) old new → new ≡ old
same_files k = λ i. record { bytes = k.bytes i; names = k.names i; special = k.special i; failed = k.failed i }

pub keeps_same : {T E : Type 0} (reported : E → List Path) (x : T) (old new : StoredFiles) → new ≡ old → KeepsFiles reported (Ok x) old new
keeps_same reported x old new same = record {
  bytes = ap (λ (f : StoredFiles). f.bytes) same;
  names = ap (λ (f : StoredFiles). f.names) same;
  special = ap (λ (f : StoredFiles). f.special) same;
  failed = ap (λ (f : StoredFiles). f.failed) same;
}

-- A call that fails, after calls that changed nothing.
pub keeps_err : {T U E : Type 0} {reported : E → List Path} {e : E} {old middle new : StoredFiles} → middle ≡ old → KeepsFiles {T = T} reported (Err e) middle new
    → KeepsFiles {T = U} reported (Err e) old new
keeps_err {reported = reported} {e = e} same k = record {
  bytes = k.bytes ∙ ap (λ (f : StoredFiles). f.bytes) same;
  names = k.names ∙ ap (λ (f : StoredFiles). f.names) same;
  special = k.special ∙ ap (λ (f : StoredFiles). f.special) same;
  failed = k.failed ∙ ap (λ (f : StoredFiles). reported e ++ f.failed) same;
}
