-- Maps from keys to which a value is added.
use Rattle.std.proofs.Common.{◌≡◌, ◌≢◌, ℕ, ◌+◌, ◌<◌, ◌≤◌, Bool, true, false, cond, is_some, List, [], ◌∷◌, ◌++◌, Option, Some, None, Result, Ok, Err, IfSome, OnOk, OnErr, inl, inr, length, take, take_all, map, get_or, refl, sym, ap, subst, ◌∙◌, arith}
use Rattle.std.specs.Prelude.{String, string_bytes}
use Rattle.std.specs.Option.{option_map}
use Rattle.std.specs.List.{Contains}
use Rattle.std.proofs.lemmas.List.{append_assoc, take-map, map_more, length-map}
use Rattle.std.proofs.lemmas.List.Elements.{Contains-append_left, Contains-push, Contains-push_cases}
use Rattle.std.specs.Ordering.{nat_cmp, eq_by_cmp, is_lt}
use Rattle.std.specs.Cmp.Lexicographic.{slice_cmp, nat_list_cmp_total}
use Rattle.std.specs.FinMap.{FinMap, get, insert, empty, contains_key, get-empty, get-insert}
use Rattle.keymaps.proofs.Views.{same_key, key_of, get_here, get_apart, there_still}
use Rattle.filenames.specs.Names.{Key}
use Rattle.folders.specs.FileSystem.{Path, FileBytes}
use Rattle.folders.specs.Listings.{AreDuplicates, IsHostFile, ListsFolder, least}

abbrev pub Map : Type 0 → Type 0
Map X = FinMap (slice_cmp nat_cmp) X

pub none_there : (X : Type 0) (q : Key) → contains_key {X = X} {R = slice_cmp nat_cmp} empty q ≡ true → ⊥
none_there X q h = let e : is_some (get {X = X} {R = slice_cmp nat_cmp} empty q) ≡ false = ap is_some (get-empty (slice_cmp nat_cmp) q) in cc

pub none_named : {X Y P : Type 0} (f : X → Y) (q : Key) (v : Y) → option_map f (get {X = X} {R = slice_cmp nat_cmp} empty q) ≡ Some v → P
none_named {X = X} f q v h = let e : option_map f (get {X = X} {R = slice_cmp nat_cmp} empty q) ≡ None = ap (option_map f) (get-empty (slice_cmp nat_cmp) q) in cc

module _ {X : Type 0} where
  named_one : {Y : Type 0} (f : X → Y) (P : Key → Y → Type 0) (key k : Key) (b : Bool) (v : X) (w : Y) (r : Option X) → (b ≡ true → k ≡ key) → P key (f v) → (option_map f r ≡ Some w → P k w)
      → option_map f (cond b (Some v) r) ≡ Some w → P k w
  named_one f P key k true v w r same here rest h = let e : f v ≡ w = cc in subst (P k) e (subst (λ q. P q (f v)) (sym (same refl)) here)
  named_one f P key k false v w r same here rest h = rest h

  -- What holds for each key and its value still holds, whether such a key was added or not.
  pub put_named : {E Y : Type 0} (f : X → Y) (P : Key → Y → Type 0) (m n : Map X) (key : Key) (v : X) (r : Result (Unit {0}) E) → OnOk r (n ≡ insert m key v) → OnErr r (n ≡ m)
      → P key (f v) → ((k : Key) (w : Y) → option_map f (get m k) ≡ Some w → P k w) → (k : Key) (w : Y) → option_map f (get n k) ≡ Some w → P k w
  put_named f P m n key v (Ok x) ok err here rest k w h =
      named_one f P key k (eq_by_cmp (slice_cmp nat_cmp) k key) v w (get m k) (key_of same_key k key) here (rest k w)
      (ap (option_map f) (sym (get-insert nat_list_cmp_total m key v k) ∙ ap (λ l. get l k) (sym ok)) ∙ h)
  put_named f P m n key v (Err x) ok err here rest k w h = rest k w (ap (λ l. option_map f (get l k)) (sym err) ∙ h)

  put_one : (P : Key → Type 0) (key k : Key) (b : Bool) (v : X) (r : Option X) → (b ≡ true → k ≡ key) → P key → (is_some r ≡ true → P k)
      → is_some (cond b (Some v) r) ≡ true → P k
  put_one P key k true v r same here rest h = subst P (sym (same refl)) here
  put_one P key k false v r same here rest h = rest h

  -- What holds for each key still holds when such a key is added.
  put_all : (P : Key → Type 0) (m : Map X) (key : Key) (v : X) → P key → ((k : Key) → contains_key m k ≡ true → P k)
      → (k : Key) → contains_key (insert m key v) k ≡ true → P k
  put_all P m key v here rest k h = put_one P key k (eq_by_cmp (slice_cmp nat_cmp) k key) v (get m k) (key_of same_key k key) here (rest k)
      (sym (ap is_some (get-insert nat_list_cmp_total m key v k)) ∙ h)

  -- The same, whether the key was added or not.
  pub put_or_not : {E : Type 0} (P : Key → Type 0) (m n : Map X) (key : Key) (v : X) (r : Result (Unit {0}) E) → OnOk r (n ≡ insert m key v) → OnErr r (n ≡ m)
      → P key → ((k : Key) → contains_key m k ≡ true → P k) → (k : Key) → contains_key n k ≡ true → P k
  put_or_not P m n key v (Ok x) ok err here rest k h = put_all P m key v here rest k (ap (λ l. contains_key l k) (sym ok) ∙ h)
  put_or_not P m n key v (Err x) ok err here rest k h = rest k (ap (λ l. contains_key l k) (sym err) ∙ h)

  -- A key that was there is still there.
  pub still_there : {E : Type 0} (m n : Map X) (key : Key) (v : X) (r : Result (Unit {0}) E) → OnOk r (n ≡ insert m key v) → OnErr r (n ≡ m)
      → (k : Key) → contains_key m k ≡ true → contains_key n k ≡ true
  still_there m n key v (Ok x) ok err k h = ap (λ l. contains_key l k) ok ∙ there_still nat_list_cmp_total same_key m key v k h
  still_there m n key v (Err x) ok err k h = ap (λ l. contains_key l k) err ∙ h

  -- The value of another key stays the same.
  pub other_stays : {E : Type 0} (m n : Map X) (key : Key) (v : X) (r : Result (Unit {0}) E) → OnOk r (n ≡ insert m key v) → OnErr r (n ≡ m)
      → (k : Key) → k ≢ key → get n k ≡ get m k
  other_stays m n key v (Ok x) ok err k h = ap (λ l. get l k) ok ∙ get_apart nat_list_cmp_total same_key m key v k h
  other_stays m n key v (Err x) ok err k h = ap (λ l. get l k) err

  -- The key that was added is there.
  pub now_there : {E : Type 0} (m n : Map X) (key : Key) (v : X) (r : Result (Unit {0}) E) → OnOk r (n ≡ insert m key v) → OnOk r (contains_key n key ≡ true)
  now_there m n key v (Ok x) ok = ap (λ l. contains_key l key) ok ∙ ap is_some (get_here nat_list_cmp_total same_key m key v)
  now_there m n key v (Err x) ok = tt

-- ---- the names of a folder, one after another

some_at : {X : Type 0} (o : Option X) → is_some o ≡ true → (x : X) × (o ≡ Some x)
some_at None e = cc
some_at (Some x) e = (x, refl)

module _ (stored : FileBytes) (drive : ℕ) (folder : Path) where
  two_further : (names : List Path) (file : Path) (key : Key) → AreDuplicates stored drive folder names key → AreDuplicates stored drive folder (names ++ file ∷ []) key
  two_further names file key t = record {
    before = t.before;
    name = t.name;
    after = t.after ++ file ∷ [];
    listed = ap (λ l. l ++ file ∷ []) t.listed ∙ append_assoc t.before (t.name ∷ t.after) (file ∷ []);
    other = t.other;
    earlier = t.earlier;
    first = t.first;
    second = t.second;
  }

  some_further : (names : List Path) (file : Path) (duplicate : Option Key) → IfSome duplicate (AreDuplicates stored drive folder names) → IfSome duplicate (AreDuplicates stored drive folder (names ++ file ∷ []))
  some_further names file None t = tt
  some_further names file (Some key) t = two_further names file key t

  -- A name has at most one key.
  one_key : (file : Path) (a b : Key) → IsHostFile stored drive folder a file → IsHostFile stored drive folder b file → a ≡ b
  one_key file a b p q = let same : Some a ≡ Some b = sym p.gives ∙ q.gives in cc

  module _ {Z : Type 0} (names : List Path) (files : Map (String Z)) (duplicate : Option Key) (file : Path) (l : ListsFolder stored drive folder names files duplicate) where
    -- The name belongs to no host file.
    pub passed_over : ((key : Key) → IsHostFile stored drive folder key file → ⊥) → ListsFolder stored drive folder (names ++ file ∷ []) files duplicate
    passed_over none = record {
      listed = λ key f e. let h = l.listed key f e in (Contains-append_left names (file ∷ []) (string_bytes f) h.0, h.1);
      all = λ key name h is. elim (Contains-push_cases names file name h) [ inl r ↦ l.all key name r is | inr e ↦ absurd (none key (subst (IsHostFile stored drive folder key) (sym e) is)) ];
      alone = λ one key name h is. elim (Contains-push_cases names file name h) [ inl r ↦ l.alone one key name r is | inr e ↦ absurd (none key (subst (IsHostFile stored drive folder key) (sym e) is)) ];
      two = some_further names file duplicate l.two;
    }

    module _ (key : Key) (text : String Z) (says : string_bytes text ≡ file) (is : IsHostFile stored drive folder key file) where
      by_key : (b : Bool) (k : Key) (f : String Z) → (b ≡ true → k ≡ key) → cond b (Some text) (get files k) ≡ Some f
          → Contains (names ++ file ∷ []) (string_bytes f) × IsHostFile stored drive folder k (string_bytes f)
      by_key true k f same e =
          let one : text ≡ f = cc in
          subst (λ g. Contains (names ++ file ∷ []) (string_bytes g) × IsHostFile stored drive folder k (string_bytes g)) one
          (subst (λ n. Contains (names ++ file ∷ []) n × IsHostFile stored drive folder k n) (sym says)
          (Contains-push names file, subst (λ j. IsHostFile stored drive folder j file) (sym (same refl)) is))
      by_key false k f same e = let h = l.listed k f e in (Contains-append_left names (file ∷ []) (string_bytes f) h.0, h.1)

      -- The name belongs to a host file whose key no earlier name has.
      pub added_once : contains_key files key ≡ false → ListsFolder stored drive folder (names ++ file ∷ []) (insert files key text) duplicate
      added_once new = record {
        listed = λ k f e. by_key (eq_by_cmp (slice_cmp nat_cmp) k key) k f (key_of same_key k key) (sym (get-insert nat_list_cmp_total files key text k) ∙ e);
        all = λ k name h at. elim (Contains-push_cases names file name h) [
          | inl r ↦ there_still nat_list_cmp_total same_key files key text k (l.all k name r at)
          | inr e ↦ ap (contains_key (insert files key text)) (one_key file k key (subst (IsHostFile stored drive folder k) (sym e) at) is)
              ∙ ap is_some (get_here nat_list_cmp_total same_key files key text)
        ];
        alone = λ one k name h at. elim (Contains-push_cases names file name h) [
          | inl r ↦ ap (option_map string_bytes) (get_apart nat_list_cmp_total same_key files key text k
              (λ e. let bad : contains_key files key ≡ true = ap (contains_key files) (sym e) ∙ l.all k name r at in cc))
              ∙ l.alone one k name r at
          | inr e ↦ ap (λ j. option_map string_bytes (get (insert files key text) j)) (one_key file k key (subst (IsHostFile stored drive folder k) (sym e) at) is)
              ∙ ap (option_map string_bytes) (get_here nat_list_cmp_total same_key files key text) ∙ ap Some (says ∙ e)
        ];
        two = some_further names file duplicate l.two;
      }

      now_two : contains_key files key ≡ true → AreDuplicates stored drive folder (names ++ file ∷ []) key
      now_two old =
          let first = some_at (get files key) old in
          let h = l.listed key first.0 first.1 in
          record { before = names; name = file; after = []; listed = refl; other = string_bytes first.0; earlier = h.0; first = h.1; second = is }

      lesser_two : (b : Bool) (other : Key) → contains_key files key ≡ true → AreDuplicates stored drive folder names other → AreDuplicates stored drive folder (names ++ file ∷ []) (cond b other key)
      lesser_two true other old t = two_further names file other t
      lesser_two false other old t = now_two old

      least_two : (o : Option Key) → contains_key files key ≡ true → IfSome o (AreDuplicates stored drive folder names) → AreDuplicates stored drive folder (names ++ file ∷ []) (least key o)
      least_two None old t = now_two old
      least_two (Some other) old t = lesser_two (is_lt (slice_cmp nat_cmp other key)) other old t

      -- The name belongs to a host file whose key an earlier name has.
      pub added_again : contains_key files key ≡ true → ListsFolder stored drive folder (names ++ file ∷ []) files (Some (least key duplicate))
      added_again old = record {
        listed = λ k f e. let h = l.listed k f e in (Contains-append_left names (file ∷ []) (string_bytes f) h.0, h.1);
        all = λ k name h at. elim (Contains-push_cases names file name h) [
          | inl r ↦ l.all k name r at
          | inr e ↦ ap (contains_key files) (one_key file k key (subst (IsHostFile stored drive folder k) (sym e) at) is) ∙ old
        ];
        alone = λ one. cc;
        two = least_two duplicate old l.two;
      }

      -- The name belongs to a host file.
      pub added : (now : Map (String Z)) (then : Option Key)
          → (contains_key files key ≡ false → (now ≡ insert files key text) × (then ≡ duplicate))
          → (contains_key files key ≡ true → (now ≡ files) × (then ≡ Some (least key duplicate)))
          → ListsFolder stored drive folder (names ++ file ∷ []) now then
      added now then once again = by_old (contains_key files key) refl where
        by_old : (b : Bool) → contains_key files key ≡ b → ListsFolder stored drive folder (names ++ file ∷ []) now then
        by_old true e = let a = again e in subst (λ m. ListsFolder stored drive folder (names ++ file ∷ []) m then) (sym a.0) (subst (ListsFolder stored drive folder (names ++ file ∷ []) files) (sym a.1) (added_again e))
        by_old false e = let o = once e in subst (λ m. ListsFolder stored drive folder (names ++ file ∷ []) m then) (sym o.0) (subst (ListsFolder stored drive folder (names ++ file ∷ []) (insert files key text)) (sym o.1) (added_once e))

  -- There are no names.
  pub none_listed : {Z : Type 0} (files : Map (String Z)) (duplicate : Option Key) → files ≡ empty → duplicate ≡ None → ListsFolder stored drive folder [] files duplicate
  none_listed {Z} files duplicate e t = subst (λ m. ListsFolder stored drive folder [] m duplicate) (sym e) (subst (ListsFolder stored drive folder [] empty) (sym t) (record {
    listed = λ key f h. absurd (none_there (String Z) key (ap is_some h));
    all = λ key name h is. absurd (none_in h);
    alone = λ one key name h is. absurd (none_in h);
    two = tt;
  })) where
    none_in : {name : Path} → Contains [] name → ⊥
    none_in h = absurd (omega (arith, h.1))

-- The same, if the files are known.
module _ {Z : Type 0} (drive : ℕ) (folder : Path) (files : Map (String Z)) (duplicate : Option Key) (file : Path) where
  pub added_if_told : (o : Option FileBytes) (key : Key) (text : String Z) → string_bytes text ≡ file → IfSome o (λ stored. IsHostFile stored drive folder key file)
      → (now : Map (String Z)) (then : Option Key)
      → (contains_key files key ≡ false → (now ≡ insert files key text) × (then ≡ duplicate))
      → (contains_key files key ≡ true → (now ≡ files) × (then ≡ Some (least key duplicate)))
      → IfSome o (λ stored. (names : List Path) → ListsFolder stored drive folder names files duplicate → ListsFolder stored drive folder (names ++ file ∷ []) now then)
  added_if_told None key text says is now then once again = tt
  added_if_told (Some stored) key text says is now then once again = λ names l. added stored drive folder names files duplicate file l key text says is now then once again

  pub passed_over_if_told : (o : Option FileBytes) → IfSome o (λ stored. (key : Key) → IsHostFile stored drive folder key file → ⊥)
      → IfSome o (λ stored. (names : List Path) → ListsFolder stored drive folder names files duplicate → ListsFolder stored drive folder (names ++ file ∷ []) files duplicate)
  passed_over_if_told None none = tt
  passed_over_if_told (Some stored) none = λ names l. passed_over stored drive folder names files duplicate file l none

  -- One more of the names that are listed.
  pub further : (o : Option FileBytes) (items : List (String Z)) (i : ℕ) (item : String Z) (d : ℕ) (now : Map (String Z)) (then : Option Key)
      → i < length items → item ≡ get_or items i item → file ≡ string_bytes item → d ≡ drive
      → IfSome o (λ stored. ListsFolder stored drive folder (take i (map string_bytes items)) files duplicate)
      → IfSome o (λ stored. (names : List Path) → ListsFolder stored d folder names files duplicate → ListsFolder stored d folder (names ++ file ∷ []) now then)
      → IfSome o (λ stored. ListsFolder stored drive folder (take (i + 1) (map string_bytes items)) now then)
  further None items i item d now then lt is says on l h = tt
  further (Some stored) items i item d now then lt is says on l h =
      let whole : take (i + 1) (map string_bytes items) ≡ take i (map string_bytes items) ++ file ∷ [] =
      take-map string_bytes (i + 1) items ∙ map_more string_bytes items i item lt
      ∙ ap (λ xs. xs ++ string_bytes (get_or items i item) ∷ []) (sym (take-map string_bytes i items))
      ∙ ap (λ x. take i (map string_bytes items) ++ x ∷ []) (ap string_bytes (sym is) ∙ sym says) in
      subst (λ names. ListsFolder stored drive folder names now then) (sym whole)
      (subst (λ n. ListsFolder stored n folder (take i (map string_bytes items) ++ file ∷ []) now then) on
      (h (take i (map string_bytes items)) (subst (λ n. ListsFolder stored n folder (take i (map string_bytes items)) files duplicate) (sym on) l)))

module _ {Z : Type 0} (drive : ℕ) (folder : Path) (files : Map (String Z)) (duplicate : Option Key) where
  pub none_listed_if_told : (o : Option FileBytes) → files ≡ empty → duplicate ≡ None → IfSome o (λ stored. ListsFolder stored drive folder [] files duplicate)
  none_listed_if_told None e t = tt
  none_listed_if_told (Some stored) e t = none_listed stored drive folder files duplicate e t

  -- The names are all of them.
  pub all_listed : (o : Option FileBytes) (items : List (String Z)) (i : ℕ) (names : List Path) → length items ≤ i → IfSome o (λ _. map string_bytes items ≡ names)
      → IfSome o (λ stored. ListsFolder stored drive folder (take i (map string_bytes items)) files duplicate) → IfSome o (λ stored. ListsFolder stored drive folder names files duplicate)
  all_listed None items i names le e l = tt
  all_listed (Some stored) items i names le e l =
      let long = length-map items (string_bytes {Z = Z}) in
      subst (λ n. ListsFolder stored drive folder n files duplicate) (take_all i (map string_bytes items) (omega (arith, le, long)) ∙ e) l

  -- The names are those of the folder.
  pub listed_as : (o : Option FileBytes) (names others : List Path) → IfSome o (λ _. names ≡ others) → IfSome o (λ stored. ListsFolder stored drive folder names files duplicate)
      → IfSome o (λ stored. ListsFolder stored drive folder others files duplicate)
  listed_as None names others same l = tt
  listed_as (Some stored) names others same l = subst (λ n. ListsFolder stored drive folder n files duplicate) same l

pub same_names : (o : Option FileBytes) (names : List Path) → IfSome o (λ _. names ≡ names)
same_names None names = tt
same_names (Some stored) names = refl
