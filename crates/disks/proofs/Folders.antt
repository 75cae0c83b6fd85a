-- The folders of words, and why one is not found.
use Rattle.std.proofs.Common.{◌≡◌, ℕ, ◌<◌, ◌+◌, Bool, true, false, [], ◌∷◌, cond, is_some, List, Option, Some, get_or, length, map, take, refl, sym, ap, subst, ◌∙◌, arith}
use Rattle.std.specs.Borrow.{Bor}
use Rattle.std.specs.List.{Contains, filter}
use Rattle.std.proofs.lemmas.List.{get_or-map, get_or-take, length-append, length-map, length-take}
use Rattle.std.proofs.lemmas.List.Elements.{Contains-get_or, filter_more}
use Rattle.command_words.specs.declared.words.Words.{Words}
use Rattle.folders.specs.Faults.{FailsBy, IsReadFault}
use Rattle.folders.specs.FileSystem.{Path}
use Rattle.folders.specs.declared.fault.Failure.{Failure}
use Rattle.folders.specs.declared.fault.Failure.TheVariants.{AtFault, OutOfMemory}
use Rattle.disks.specs.Given.{IsDisk, IsDiskFault, IsFolderFault, Option', folders_of, given_count, seen}

-- There are twelve options.
twelve : (w : Words) → length (folders_of w) ≡ 12
unfolding folders_of
twelve w = refl

-- An option of the list with its folder.
seen_at : (w : Words) (folders : List (Bor (List ℕ) × Option (Bor Path))) (at : ℕ) (d : Bor (List ℕ) × Option (Bor Path))
    → map seen folders ≡ folders_of w → at < 12 → get_or (folders_of w) at (seen d) ≡ seen (get_or folders at d)
seen_at w folders at d same there =
    let within : at < length folders = omega (arith, length-map folders seen, ap length same, twelve w) in
    ap (λ xs. get_or xs at (seen d)) (sym same) ∙ get_or-map seen folders at d (seen d) within

-- A folder of the list is one of the first n.
pub among : (w : Words) (folders : List (Bor (List ℕ) × Option (Bor Path))) (at n : ℕ) (d : Bor (List ℕ) × Option (Bor Path)) (folder : Bor Path)
    → map seen folders ≡ folders_of w → at < n → at < 12 → (get_or folders at d).1 ≡ Some folder
    → Contains (take n (folders_of w)) ((get_or folders at d).0.now, Some folder)
among w folders at n d folder same low there given =
    let long : at < length (take n (folders_of w)) = omega (arith, twelve w, length-take n (folders_of w)) in
    let is = get_or-take n (folders_of w) at (seen d) low ∙ seen_at w folders at d same there in
    subst (Contains (take n (folders_of w))) (is ∙ ap (λ o. ((get_or folders at d).0.now, o)) given) (Contains-get_or (take n (folders_of w)) at (seen d) long)

-- How many are given with one more.
pub one_more : (w : Words) (folders : List (Bor (List ℕ) × Option (Bor Path))) (at : ℕ) (d : Bor (List ℕ) × Option (Bor Path)) (o : Option (Bor Path))
    → map seen folders ≡ folders_of w → at < 12 → (get_or folders at d).1 ≡ o → given_count w (at + 1) ≡ given_count w at + cond (is_some o) 1 0
one_more w folders at d o same there given =
    let within : at < length (folders_of w) = omega (arith, twelve w) in
    ap length (filter_more (λ f. is_some f.1) (folders_of w) at (seen d) within) ∙ length-append (filter (λ f. is_some f.1) (take at (folders_of w))) _
    ∙ ap (λ n. given_count w at + n) (counted _ _ ∙ ap (λ (f : Option'). cond (is_some f.1) 1 0) (seen_at w folders at d same there) ∙ ap (λ o. cond (is_some o) 1 0) given) where
      counted : (b : Bool) (f : Option') → length (cond b (f ∷ []) []) ≡ cond b 1 0
      counted true f = refl
      counted false f = refl

-- All of them are the first twelve.
all_of : (w : Words) → take 12 (folders_of w) ≡ folders_of w
unfolding folders_of
all_of w = refl

-- If a given folder is not found, that is the error of the folders.
pub folder_fails : (w : Words) (option : List ℕ) (folder : Bor Path) (f : Failure) → Contains (take 12 (folders_of w)) (option, Some folder) → FailsBy (IsReadFault folder.now) f
    → FailsBy (IsFolderFault w) f
folder_fails w option folder (AtFault fault) there h = (option, folder, subst (λ all. Contains all (option, Some folder)) (all_of w) there, h)
folder_fails w option folder OutOfMemory there h = tt

-- The same for a disk.
pub disk_fails : (w : Words) (path : Path) (f : Failure) → IsDisk w path → FailsBy (IsReadFault path) f → FailsBy (IsDiskFault w) f
disk_fails w path (AtFault fault) is h = (path, is, h)
disk_fails w path OutOfMemory is h = tt
