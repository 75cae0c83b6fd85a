-- What a report returns, by the run that it reports.
use Rattle.std.proofs.Common.{◌≡◌, Option, Some, None, sym, ap, ◌∙◌}
use Rattle.std.specs.FinMap.{contains_key}
use Rattle.hostfiles.specs.Order.{IsLeastAbove}
use Rattle.hostfiles.specs.Hosts.{Key, Host}
use Rattle.hostfiles.specs.Files.{OwnFiles, files, has, file_contents}
use Rattle.hostfiles.specs.Changed.{is_changed_name}
use Rattle.machine.specs.ChangedFiles.{contents_in, is_changed_name_in}
use Rattle.machine.specs.PlainFiles.{Files}
use Rattle.machine.proofs.ChangedFileLemmas.{there_laid, told_laid, changed_name_laid}

module _ (host : Host) (own : OwnFiles) (all : Files) (is : files host own ≡ all) where
  pub there_is : (key : Key) → has host own key ≡ contains_key all key
  there_is key = sym (ap (λ (m : Files). contains_key m key) (sym is) ∙ there_laid host own key)

  pub told_is : (key : Key) → file_contents host own key ≡ contents_in all key
  told_is key = sym (told_laid host own key) ∙ ap (λ (m : Files). contents_in m key) is

  pub changed_is : (key : Key) → is_changed_name_in host all key ≡ is_changed_name host own key
  changed_is key = ap (λ (m : Files). is_changed_name_in host m key) (sym is) ∙ changed_name_laid host own key

-- The least changed name of a run's own files is that of the files at its end.
pub least_left_changed : (host : Host) (own : OwnFiles) (first : Host) (all : Files) → host ≡ first → files first own ≡ all → (after key : Option Key)
    → IsLeastAbove after (is_changed_name host own) key → IsLeastAbove after (is_changed_name_in first all) key
least_left_changed host own first all same laid = by where
  is : (x : Key) → is_changed_name_in first all x ≡ is_changed_name host own x
  is x = ap (λ (h : Host). is_changed_name_in h all x) (sym same) ∙ changed_is host own all (ap (λ (h : Host). files h own) same ∙ laid) x

  by : (after key : Option Key) → IsLeastAbove after (is_changed_name host own) key → IsLeastAbove after (is_changed_name_in first all) key
  by after None none = λ x a. is x ∙ none x a
  by after (Some k) least = (least.0, is k ∙ least.1, λ x a l. is x ∙ least.2 x a l)
