-- The changed files of a run, one after another.
use Rattle.std.proofs.Common.{◌≡◌, ◌++◌, ◌∷◌, [], ◌∙◌, ◌||◌, ◌<◌, ◌+◌, ℕ, Bool, true, false, List, Some, ap, append-nil, append_assoc, cond, get_or, length, map, option_map, refl, sym, take}
use Rattle.std.specs.FinMap.{contains_key}
use Rattle.std.specs.List.{find, flat_map, list_any}
use Rattle.std.proofs.lemmas.Grind.{flat_map-append}
use Rattle.std.proofs.lemmas.List.{map-append, map_more}
use Rattle.hostfiles.specs.Files.{OwnFiles, files, has}
use Rattle.hostfiles.specs.Hosts.{Key, Host}
use Rattle.machine.proofs.ChangedFileLemmas.{there_laid}

-- The changed file that the walk found is the file with its name.
pub there_at : {host host' : Host} {own own' : OwnFiles} {key key' : Key} {b : Bool} → host ≡ host' → own ≡ own' → key ≡ key' → b ≡ has host own key → contains_key (files host' own') key' ≡ b
there_at {host' = host'} {own' = own'} {key' = key'} h o k e = there_laid host' own' key' ∙ (let same : has host' own' key' ≡ _ = cc in same)

-- The next file is in the list.
pub one_more : {E V : Type 0} (view : E → V) (f : Key → V) (items : List E) (e : E) (key : Key) (keys rest : List Key) (whole : List V) → view e ≡ f key → keys ≡ key ∷ rest
    → map view items ++ map f keys ≡ whole → map view (items ++ e ∷ []) ++ map f rest ≡ whole
one_more view f items e key keys rest whole same split left =
    ap (λ t. t ++ map f rest) (map-append view items (e ∷ []))
    ∙ append_assoc (map view items) (view e ∷ []) (map f rest)
    ∙ ap (λ v. map view items ++ v ∷ map f rest) same
    ∙ ap (λ ks. map view items ++ map f ks) (sym split)
    ∙ left

-- ---- what is made of the list

-- The part of the next file.
pub one_part : {E V X : Type 0} (view : E → V) (f : V → List X) (xs : List E) (n : ℕ) (e : E) → n < length xs → e ≡ get_or xs n e
    → flat_map f (map view (take n xs)) ++ f (view e) ≡ flat_map f (map view (take (n + 1) xs))
one_part view f xs n e h i =
    let before = map view (take n xs) in
    ap (λ x. flat_map f before ++ f (view x)) i
    ∙ sym (ap (flat_map f) (map_more view xs n e h) ∙ flat_map-append f before (view (get_or xs n e) ∷ []) ∙ ap (λ t. flat_map f before ++ t) (append-nil (f (view (get_or xs n e)))))

-- It is added to the parts before it.
pub next_part : {E V X : Type 0} (view : E → V) (f : V → List X) (xs : List E) (n : ℕ) (e : E) (old before after : List X) → n < length xs → e ≡ get_or xs n e
    → before ≡ old ++ flat_map f (map view (take n xs)) → after ≡ before ++ f (view e) → after ≡ old ++ flat_map f (map view (take (n + 1) xs))
next_part view f xs n e old before after h i parts added =
    added ∙ ap (λ t. t ++ f (view e)) parts ∙ append_assoc old (flat_map f (map view (take n xs))) (f (view e)) ∙ ap (λ t. old ++ t) (one_part view f xs n e h i)

pub any_viewed : {E V : Type 0} (view : E → V) (test : V → Bool) (xs : List E) → list_any (λ x. test (view x)) xs ≡ list_any test (map view xs)
any_viewed view test [] = refl
any_viewed view test (x ∷ xs) = ap (λ b. test (view x) || b) (any_viewed view test xs)

pub first_viewed : {E V X : Type 0} (view : E → V) (test : V → Bool) (f : V → X) (xs : List E)
    → option_map (λ x. f (view x)) (find (λ x. test (view x)) xs) ≡ option_map f (find test (map view xs))
first_viewed view test f [] = refl
first_viewed view test f (x ∷ xs) =
    let rest = find (λ y. test (view y)) xs in
    elim (test (view x)) as (λ b. option_map (λ y. f (view y)) (cond b (Some x) rest) ≡ option_map f (cond b (Some (view x)) (find test (map view xs)))) [
      | true ↦ refl
      | false ↦ first_viewed view test f xs
    ]
