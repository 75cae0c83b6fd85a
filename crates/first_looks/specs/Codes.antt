-- An encoding of the first steps of questions to the host files. (This project's own.)
use Rattle.std.specs.Prelude.{refl, ℕ, List, Option}
use Rattle.std.specs.Ordering.{nat_cmp}
use Rattle.std.specs.Cmp.Lexicographic.{slice_cmp}
use Rattle.std.specs.FinMap.{FinMap, code}
use Rattle.std.specs.Coded.{Coded, code_by, coded_ℕ, coded_list, coded_option, coded×}
use Rattle.first_looks.specs.RecordSteps.{RecordNotes, record_notes_code}
use Rattle.first_looks.specs.declared.file_steps.FileSteps.{FileSteps}

abbrev pub file_steps_code : Coded FileSteps
file_steps_code = code_by (FinMap (slice_cmp nat_cmp) ℕ × (FinMap (slice_cmp nat_cmp) ℕ × (RecordNotes × List (Option ℕ))))
    (coded× (code (coded_list coded_ℕ) coded_ℕ) (coded× (code (coded_list coded_ℕ) coded_ℕ) (coded× record_notes_code (coded_list (coded_option coded_ℕ)))))
    (λ s. (s.has, (s.lengths, (s.records, s.directories)))) (λ p. record { has = p.0; lengths = p.1.0; records = p.1.1.0; directories = p.1.1.1 }) (λ _. refl)
