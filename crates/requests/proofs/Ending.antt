-- Results of what a program does.
use Rattle.std.proofs.Common.{◌≡◌, ◌∙◌, ◌++◌, [], ap, sym, Result, Ok, Err, IfErr, OnOk}
use Rattle.faults.specs.Faults.{file_paths}
use Rattle.faults.specs.declared.fault.Fault.{Fault}
use Rattle.folders.proofs.FilesLemmas.{keeps_same}
use Rattle.folders.specs.Failures.{KeepsFiles}
use Rattle.folders.specs.FileSystem.{StoredFiles}

pub OnOk-weaker : {T E A B : Type 0} (r : Result T E) → (A → B) → OnOk r A → OnOk r B
OnOk-weaker (Ok x) f h = f h
OnOk-weaker (Err e) f h = tt

pub OnOk-both : {T E A B C : Type 0} (r : Result T E) → (A → B → C) → OnOk r A → OnOk r B → OnOk r C
OnOk-both (Ok x) f a b = f a b
OnOk-both (Err e) f a b = tt

-- What reads no file leaves the files unchanged, if none of its errors is about a file.
pub leaves_files : {T : Type 0} (r : Result T Fault) (Breaks : Fault → Type 0) (files now : StoredFiles) → ((f : Fault) → Breaks f → file_paths f ≡ []) → now ≡ files
    → IfErr r Breaks → KeepsFiles file_paths r files now
leaves_files (Ok x) Breaks files now none same h = keeps_same file_paths x files now same
leaves_files (Err f) Breaks files now none same h = record {
  bytes = ap (λ (s : StoredFiles). s.bytes) same;
  names = ap (λ (s : StoredFiles). s.names) same;
  special = ap (λ (s : StoredFiles). s.special) same;
  failed = ap (λ (s : StoredFiles). s.failed) same ∙ sym (ap (λ paths. paths ++ files.failed) (none f h));
}
