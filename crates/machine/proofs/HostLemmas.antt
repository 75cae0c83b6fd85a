-- Questions about files that are passed on to the host files, and the looks that mark them.
use Rattle.std.proofs.Common.{◌≡◌, ℕ, Bool, true, false, ◌||◌, ◌&&◌, ◌==◌, Option, Some, None, cond, is_some, refl, sym, ap, ◌∙◌}
use Rattle.std.proofs.Math.Bool.{or-false}
use Rattle.std.specs.Ordering.{nat_cmp, eq_by_cmp, is_eq, ordering_then}
use Rattle.std.specs.declared.cmp.Ordering.TheVariants.{Less, Equal, Greater}
use Rattle.std.specs.Cmp.{nat_cmp_total, unsigned_tied}
use Rattle.std.specs.Cmp.Lexicographic.{slice_cmp, nat_list_cmp_total}
use Rattle.std.specs.FinMap.{FinMap, get, insert, contains_key, get-insert, get-empty}
use Rattle.interaction_trees.specs.Tree.{Return, Query, result_of, questions_of}
use Rattle.hostfiles.specs.Order.{record_cmp}
use Rattle.hostfiles.proofs.Views.{places_total}
use Rattle.hostfiles.specs.Hosts.{Key}
use Rattle.hostfiles.specs.Files.{OwnFiles, entry_at, is_host_part}
use Rattle.hostfiles.specs.FileLooks.{is_looked, is_same_ask, no_looks, look_has_by, look_length_by, look_record_by, look_directory}
use Rattle.hostfiles.specs.declared.journal.Base.{Base}
use Rattle.hostfiles.specs.declared.journal.Base.TheVariants.{Same, Gone, New, Moved}
use Rattle.hostfiles.specs.declared.journal.Growth.{Growth}
use Rattle.hostfiles.specs.declared.journal.Entry.{Entry}
use Rattle.hostfiles.specs.declared.looks.FileLooks.{FileLooks}
use Rattle.hostfiles.specs.declared.looks.Ask.{Ask}
use Rattle.hostfiles.specs.declared.looks.Ask.TheVariants.{Has, Length, Rec, Directory}
use Rattle.file_calls.specs.FileQuestions.{FileQuestion, IsThere, ShapeOf, Content, FilesOn}
use Rattle.file_calls.specs.TableView.{look_for}
use Rattle.file_calls.specs.HostTrees.{HostAnswer, HostTree, there_tree, shape_tree, host_record_tree, record_tree}
use Rattle.file_calls.specs.HostTrees as passing
use Rattle.first_looks.specs.declared.question.Question.TheVariants.{Cell, Script, Host as OfHost}
use Rattle.first_looks.specs.Questions.{is_in}
use Rattle.machine.specs.Machine.{Answers, host_tree_of}

-- ---- the host files' trees over a session

pub result_of-asking_host : {E : Type 0} (f : Answers) (t : HostTree E) → result_of f (host_tree_of t) ≡ result_of (λ a. f (OfHost a)) t
result_of-asking_host f (Return e) = refl
result_of-asking_host f (Query a t) = result_of-asking_host f (t (f (OfHost a)))

pub no_cell : {E : Type 0} (f : Answers) (t : HostTree E) (q : ℕ) → is_in (Cell q) (questions_of f (host_tree_of t)) ≡ false
no_cell f (Return e) q = refl
no_cell f (Query a t) q = no_cell f (t (f (OfHost a))) q

pub no_place : {E : Type 0} (f : Answers) (t : HostTree E) (k : ℕ) → is_in (Script k) (questions_of f (host_tree_of t)) ≡ false
no_place f (Return e) k = refl
no_place f (Query a t) k = no_place f (t (f (OfHost a))) k

-- ---- marks

-- Nothing more is marked.
same_marks : (b : Bool) → b ≡ (b || false)
same_marks b = sym (or-false b)

-- A key with a record number is equal to another if both parts are equal.
pub same_place_tie : (x key : Key) (j k : ℕ) → eq_by_cmp record_cmp (x, j) (key, k) ≡ (eq_by_cmp (slice_cmp nat_cmp) x key && j == k)
same_place_tie x key j k = elim (slice_cmp nat_cmp x key) as (λ o. is_eq (ordering_then o (nat_cmp j k)) ≡ (is_eq o && j == k)) [ Less ↦ refl | Equal ↦ unsigned_tied j k | Greater ↦ refl ]

-- One more is marked.
joined : (b : Bool) (o : Option (Unit {0})) → is_some (cond b (Some tt) o) ≡ (is_some o || (b || false))
joined true None = refl
joined true (Some u) = refl
joined false None = refl
joined false (Some u) = refl

marked_key : (m : FinMap (slice_cmp nat_cmp) (Unit {0})) (key x : Key) → contains_key (insert m key tt) x ≡ (contains_key m x || (eq_by_cmp (slice_cmp nat_cmp) x key || false))
marked_key m key x = ap is_some (get-insert nat_list_cmp_total m key tt x) ∙ joined (eq_by_cmp (slice_cmp nat_cmp) x key) (get m x)

marked_place : (m : FinMap record_cmp (Unit {0})) (key : Key) (k : ℕ) (x : Key) (j : ℕ) → contains_key (insert m (key, k) tt) (x, j) ≡ (contains_key m (x, j) || ((eq_by_cmp (slice_cmp nat_cmp) x key && j == k) || false))
marked_place m key k x j = ap is_some (get-insert places_total m (key, k) tt (x, j)) ∙ ap (λ b. is_some (cond b (Some tt) (get m (x, j)))) (same_place_tie x key j k) ∙ joined (eq_by_cmp (slice_cmp nat_cmp) x key && j == k) (get m (x, j))

marked_drive : (m : FinMap nat_cmp (Unit {0})) (drive d : ℕ) → contains_key (insert m drive tt) d ≡ (contains_key m d || (d == drive || false))
marked_drive m drive d = ap is_some (get-insert nat_cmp_total m drive tt d) ∙ ap (λ b. is_some (cond b (Some tt) (get m d))) (unsigned_tied d drive) ∙ joined (d == drive) (get m d)

-- ---- one question

module _ (f : Answers) (a : Ask) where
  -- Whether the tree asks the question.
  abbrev passes : {E : Type 0} → HostTree E → Bool
  passes t = is_in (OfHost a) (questions_of f (host_tree_of t))

  by_has : (l : FileLooks) (key : Key) (a : Ask) → is_looked (record l { has = insert l.has key tt }) a ≡ (is_looked l a || (is_same_ask a (Has key) || false))
  by_has l key (Has x) = marked_key l.has key x
  by_has l key (Length x) = same_marks _
  by_has l key (Rec x j) = same_marks _
  by_has l key (Directory d) = same_marks _

  by_length : (l : FileLooks) (key : Key) (a : Ask) → is_looked (record l { lengths = insert l.lengths key tt }) a ≡ (is_looked l a || (is_same_ask a (Length key) || false))
  by_length l key (Has x) = same_marks _
  by_length l key (Length x) = marked_key l.lengths key x
  by_length l key (Rec x j) = same_marks _
  by_length l key (Directory d) = same_marks _

  by_record : (l : FileLooks) (key : Key) (k : ℕ) (a : Ask) → is_looked (record l { records = insert l.records (key, k) tt }) a ≡ (is_looked l a || (is_same_ask a (Rec key k) || false))
  by_record l key k (Has x) = same_marks _
  by_record l key k (Length x) = same_marks _
  by_record l key k (Rec x j) = marked_place l.records key k x j
  by_record l key k (Directory d) = same_marks _

  by_directory : (l : FileLooks) (drive : ℕ) (a : Ask) → is_looked (look_directory drive l) a ≡ (is_looked l a || (is_same_ask a (Directory drive) || false))
  by_directory l drive (Has x) = same_marks _
  by_directory l drive (Length x) = same_marks _
  by_directory l drive (Rec x j) = same_marks _
  by_directory l drive (Directory d) = marked_drive l.directories drive d

  mark_there : (key : Key) (b : Base) (l : FileLooks) → is_looked (look_has_by b key l) a ≡ (is_looked l a || passes (there_tree key b))
  mark_there key Same l = by_has l key a
  mark_there key Gone l = same_marks _
  mark_there key New l = same_marks _
  mark_there key (Moved old) l = same_marks _

  mark_shape : (key : Key) (b : Base) (g : Option Growth) (e : Entry) (l : FileLooks) → is_looked (look_length_by b g key l) a ≡ (is_looked l a || passes (shape_tree key b g e))
  mark_shape key b (Some g) e l = same_marks _
  mark_shape key Same None e l = by_length l key a
  mark_shape key Gone None e l = same_marks _
  mark_shape key New None e l = same_marks _
  mark_shape key (Moved old) None e l = by_length l old a

  mark_record : (key : Key) (k : ℕ) (b : Base) (l : FileLooks) → is_looked (look_record_by b key k l) a ≡ (is_looked l a || passes (host_record_tree key k b))
  mark_record key k Same l = by_record l key k a
  mark_record key k Gone l = same_marks _
  mark_record key k New l = same_marks _
  mark_record key k (Moved old) l = by_record l old k a

  mark_content : (key : Key) (k : ℕ) (b : Base) (r : Option _) (below : Bool) (l : FileLooks)
      → is_looked (cond (is_some r) l (cond below (look_record_by b key k l) l)) a ≡ (is_looked l a || passes (record_tree key k b r below))
  mark_content key k b (Some r) below l = same_marks _
  mark_content key k b None true l = mark_record key k b l
  mark_content key k b None false l = same_marks _

  pub mark_one : (own : OwnFiles) (q : FileQuestion) (l : FileLooks) → is_looked (look_for own q l) a ≡ (is_looked l a || passes (passing.host_tree own q))
  mark_one own (IsThere key) l = mark_there key (entry_at own key).base l
  mark_one own (ShapeOf key) l = mark_shape key (entry_at own key).base (entry_at own key).grown (entry_at own key) l
  mark_one own (Content key k) l = mark_content key k (entry_at own key).base (get (entry_at own key).records k) (is_host_part k (entry_at own key).grown) l
  mark_one own (FilesOn drive) l = by_directory l drive a

-- Empty looks contain no question.
pub nothing_asked : (l : FileLooks) (a : Ask) → l ≡ no_looks → is_looked l a ≡ false
nothing_asked l a e = ap (λ x. is_looked x a) e ∙ none a where
  none : (a : Ask) → is_looked no_looks a ≡ false
  none (Has key) = ap is_some (get-empty (slice_cmp nat_cmp) key)
  none (Length key) = ap is_some (get-empty (slice_cmp nat_cmp) key)
  none (Rec key k) = ap is_some (get-empty record_cmp (key, k))
  none (Directory d) = ap is_some (get-empty nat_cmp d)
