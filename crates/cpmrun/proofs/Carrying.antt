-- The plan of a run, and what carrying it out did.
use Rattle.std.proofs.Common.{◌≡◌, ◌++◌, ◌∙◌, ℕ, Bool, List, None, Some, Ok, Err, Option, Result, IfSome, [], ap, false, inr, refl, subst, sym, take}
use Rattle.command_words.specs.declared.words.Words.{Words}
use Rattle.faults.specs.declared.fault.Fault.{Fault}
use Rattle.folders.specs.ChangedBytes.{written_bytes}
use Rattle.folders.specs.FileSystem.{Becomes, FileBytes, HasBytes, IsKindAt, Path, StoredFiles, kind_at, with_bytes}
use Rattle.folders.specs.declared.file_system.Kind.TheVariants.{Other}
use Rattle.folders.specs.declared.contents.Written.{Written}
use Rattle.folders.specs.declared.fault.Failure.{Failure}
use Rattle.folders.specs.declared.listing.Listing.{Listing}
use Rattle.folders.specs.declared.places.Places.{Places}
use Rattle.hostfiles.specs.Hosts.{Host}
use Rattle.machine.specs.Inputs.{Session}
use Rattle.machine.specs.PlainFiles.{Files}
use Rattle.machine.specs.PlainState.{plain_run}
use Rattle.one_run.specs.ChangedList.{Changed, changed_list, planned}
use Rattle.one_run.specs.declared.planning.Turn.TheVariants.{Gone, New, Outside, Replacing}
use Rattle.one_run.specs.declared.reporting.Disks.{Disks}
use Rattle.plan.specs.Carries.{Carries, CarriesEach}
use Rattle.plan.specs.Wanted.{Wanted}
use Rattle.plan.specs.declared.deed.Deed.{Deed}
use Rattle.std.specs.Io.KnownBytes.{Appends}
use Rattle.streams.specs.Streams.{Output, WritesText}
use Rattle.cpmrun.specs.Reports.{IsElsewhere, IsRuleOf, Told, put_paths, report_part}
use Rattle.cpmrun.specs.RunEnds.{BreaksChanges, BreaksPlan, CarriesPlan, ChangesFiles, IsPlan, IsWhole, asked, changed_by_run, disk_puts, on_disks, puts}

module _ (disks : Disks) (cs : List Changed) where
  -- What is put onto disks was planned turn by turn.
  pub disk_puts_planned : (none first second : List Wanted) → none ≡ [] → first ≡ none ++ on_disks disks (planned New cs) → second ≡ first ++ on_disks disks (planned Replacing cs)
      → second ≡ disk_puts disks cs
  disk_puts_planned none first second n one two = two ∙ ap (λ t. t ++ on_disks disks (planned Replacing cs)) (one ∙ ap (λ t. t ++ on_disks disks (planned New cs)) n)

  -- The rule and what is removed were added to what is put onto disks.
  pub is_whole : (rule : Option Told) (before : StoredFiles) (with_rule : Bool) (puts first plan : List Wanted) → (with_rule ≡ false → IsElsewhere rule before)
      → puts ≡ disk_puts disks cs → first ≡ puts ++ report_part with_rule rule → plan ≡ first ++ on_disks disks (planned Gone cs) → IsWhole disks cs rule before plan
  is_whole rule before with_rule puts first plan apart start one two = record {
    with_rule = with_rule;
    apart = apart;
    is = two ∙ ap (λ t. t ++ on_disks disks (planned Gone cs)) (one ∙ ap (λ t. t ++ report_part with_rule rule) start);
  }

-- The plan for disks of a run, with its rule.
pub is_plan : (w : Words) (listings : List (Option Listing)) (s : Session) (disks : Disks) (cs : List Changed) (before : StoredFiles) (rule : Option Told)
    (paths : List Path) (disk first plan : List Wanted) (with_rule : Bool) → paths ≡ put_paths (puts disks cs) → IsRuleOf w listings paths s rule
    → (with_rule ≡ false → IsElsewhere rule before) → disk ≡ disk_puts disks cs → first ≡ disk ++ report_part with_rule rule → plan ≡ first ++ on_disks disks (planned Gone cs)
    → IsPlan w listings s disks cs before plan
is_plan w listings s disks cs before rule paths disk first plan with_rule p r apart start one two = record {
  rule = rule;
  rule_is = subst (λ x. IsRuleOf w listings x s rule) p r;
  whole = is_whole disks cs rule before with_rule disk first plan apart start one two;
}

-- The files outside of disks were written, and then the plan for disks was carried out, or broke off.
pub carries_plan : (before middle after : Option FileBytes) (result : Result (Unit {0}) Failure) (outside deeds : List (Deed Written))
    → CarriesEach written_bytes outside before middle (Ok tt) → Carries written_bytes deeds middle after result
    → CarriesPlan (asked outside) (asked deeds) before after result
carries_plan before middle after result outside deeds each carried = record {
  middle = middle;
  first = record { deeds = outside; is = refl; carried = each };
  deeds = deeds;
  is = refl;
  carried = carried;
}

-- The files did not change any more.
becomes_then : (a b c : Option FileBytes) (change : FileBytes → FileBytes) → Becomes a b change → Becomes b c (λ stored. stored) → Becomes a c change
becomes_then None b c change h same = tt
becomes_then (Some f) None c change h same = absurd (let clash : None ≡ Some (change f) = h in cc)
becomes_then (Some f) (Some g) c change h same = same ∙ h

pub carries_then : (outside plan : List Wanted) (before middle after : Option FileBytes) → CarriesPlan outside plan before middle (Ok tt) → Becomes middle after (λ stored. stored)
    → CarriesPlan outside plan before after (Ok tt)
carries_then outside plan before middle after p same =
    record { middle = p.middle; first = p.first; deeds = p.deeds; is = p.is; carried = (p.carried.0, becomes_then p.middle middle after _ p.carried.1 same) }

-- What is written into something that is no regular file changes no file.
pub writes_elsewhere : (path : Path) (text : List ℕ) (before after : StoredFiles) → IsKindAt before path Other → HasBytes path text before after
    → Becomes before.bytes after.bytes (λ stored. stored)
writes_elsewhere path text before after is has = by before.bytes is has where
  by : (o : Option FileBytes) → IfSome o (λ stored. Other ≡ kind_at before stored path) → Becomes o after.bytes (λ stored. with_bytes path text (kind_at before stored path) stored)
      → Becomes o after.bytes (λ stored. stored)
  by None is has = tt
  by (Some files) is has = has ∙ ap (λ kind. Some (with_bytes path text kind files)) (sym is)

-- Writing a text appended some of it.
pub appended : {T E : Type 0} (r : Result T E) (old new : Output) (text : List ℕ) → WritesText old new text r → (part : List ℕ) × Appends old.holds new.holds part
appended (Ok x) old new text h = (text, h.bytes)
appended (Err e) old new text h = (take h.count text, h.bytes)

module _ (w : Words) (listings : List (Option Listing)) (s : Session) (disks : Disks) (cs : List Changed) (before : StoredFiles) (middle after : Option FileBytes)
    (outside plan : List Wanted) (is : IsPlan w listings s disks cs before plan) (o : outside ≡ planned Outside cs) (m : middle ≡ before.bytes) where
  -- The files were changed by the plan of a run.
  pub changes_files : CarriesPlan outside plan middle after (Ok tt) → ChangesFiles w listings s disks cs before after
  changes_files carried = record {
    plan = plan;
    is = is;
    carries = subst (λ x. CarriesPlan x plan before.bytes after (Ok tt)) o (subst (λ x. CarriesPlan outside plan x after (Ok tt)) m carried);
  }

  -- This broke off.
  pub breaks_changes : (fault : Fault) → BreaksPlan outside plan middle after fault → BreaksChanges w listings s disks cs before after fault
  breaks_changes fault broken =
      inr (plan, is, subst (λ x. BreaksPlan x plan before.bytes after fault) o (subst (λ x. BreaksPlan outside plan x after fault) m broken))

-- The list of the changed files of a run is that of its session.
pub list_of : (p : Places) (s : Session) {host : Host} {own : Files} → host ≡ s.files → own ≡ (plain_run s).state.files → changed_list p host own ≡ changed_by_run p s
list_of p s h o = λ i. changed_list p (h i) (o i)
