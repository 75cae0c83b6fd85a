-- The encoding of all files, by which two proofs that runs are equal are the same. (This project's own.)
use Rattle.std.specs.Prelude.{◌≡◌}
use Rattle.std.specs.FinMap.{code}
use Rattle.std.specs.Coded.{Coded, Coded-set, codes, coded_ℕ, coded_list, coded_option}
use Rattle.machine.specs.PlainFiles.{Files}
use Rattle.machine.specs.PlainState.{PlainRun}

abbrev pub all_files_code : Coded Files
all_files_code = code (coded_list coded_ℕ) (coded_list (coded_option (coded_list coded_ℕ)))

-- Any two proofs that two runs are equal are the same.
pub equal_runs-prop : (x y : PlainRun) → IsProp (x ≡ y)
equal_runs-prop x y = Coded-set (Prim.hlevel (codes, all_files_code)) x y
