-- Host files stay within their limits.
use Rattle.std.proofs.Common.{◌≡◌, ◌≤◌, ◌+◌, ◌-◌, ◌/◌, length, ◌||◌, ℕ, Bool, true, false, cond, is_some, List, Option, Some, None, nat_lt, Result, Ok, Err, OnOk, OnErr, refl, sym, ap, ◌∙◌, arith, subst}
use Rattle.std.proofs.lemmas.Bool.Decides.{nat_tests}
use Rattle.std.specs.Ordering.{nat_cmp, eq_by_cmp}
use Rattle.std.specs.Cmp.Lexicographic.{slice_cmp, nat_list_cmp_total}
use Rattle.std.specs.FinMap.{get, insert, remove, empty, contains_key, len, len-empty, len-insert, len-remove, get-empty, get-insert, get-remove}
use Rattle.keymaps.proofs.Views.{same_key, key_of}
use Rattle.filenames.specs.Names.{is_sayable}
use Rattle.hostfiles.specs.Hosts.{Key, Record, Host, IsHost, has_room, padded_record_at, records_in}
use Rattle.std.proofs.lemmas.List.FromFn.{length-map-range_with_len}

none_there : (q : Key) → contains_key {X = List Record} {R = slice_cmp nat_cmp} empty q ≡ true → ⊥
none_there q h = let e : is_some (get {X = List Record} {R = slice_cmp nat_cmp} empty q) ≡ false = ap is_some (get-empty (slice_cmp nat_cmp) q) in cc

pub host_empty : IsHost empty
host_empty = record { few = (let e = len-empty (slice_cmp nat_cmp) (List Record) in omega arith); sayable = λ q h. absurd (none_there q h); short = λ q f e. (let none : get {X = List Record} {R = slice_cmp nat_cmp} empty q ≡ None = get-empty (slice_cmp nat_cmp) q in cc) }

without : (b : Bool) (r : Option (List Record)) → is_some (cond b None r) ≡ true → is_some r ≡ true
without true r h = cc
without false r h = h

fewer : (b : Bool) (n : ℕ) → n ≤ 512 → cond b (n - 1) n ≤ 512
fewer true n h = omega arith
fewer false n h = h

kept_short : (b : Bool) (r : Option (List Record)) → ((f : List Record) → r ≡ Some f → length f ≤ 65536) → (f : List Record) → cond b None r ≡ Some f → length f ≤ 65536
kept_short true r h f e = cc
kept_short false r h f e = h f e

set_short : (b : Bool) (v : List Record) (r : Option (List Record)) → length v ≤ 65536 → ((f : List Record) → r ≡ Some f → length f ≤ 65536) → (f : List Record) → cond b (Some v) r ≡ Some f → length f ≤ 65536
set_short true v r few h f e = let same : v ≡ f = cc in subst (λ x. length x ≤ 65536) same few
set_short false v r few h f e = h f e

pub host_removed : (m : Host) (k : Key) → IsHost m → IsHost (remove m k)
host_removed m k h = record {
  few = subst (λ n. n ≤ 512) (sym (len-remove nat_list_cmp_total m k)) (fewer (contains_key m k) (len m) h.few);
  sayable = λ q e. h.sayable q (without (eq_by_cmp (slice_cmp nat_cmp) q k) (get m q) (sym (ap is_some (get-remove nat_list_cmp_total m k q)) ∙ e));
  short = λ q f e. kept_short (eq_by_cmp (slice_cmp nat_cmp) q k) (get m q) (h.short q) f (sym (get-remove nat_list_cmp_total m k q) ∙ e);
}

room_left : (b : Bool) (n : ℕ) → n ≤ 512 → (b || nat_lt n 512) ≡ true → cond b n (n + 1) ≤ 512
room_left true n h r = h
room_left false n h r = grind (arith, nat_tests)

said : (k q : Key) (b : Bool) (v : List Record) (r : Option (List Record)) → (b ≡ true → q ≡ k) → is_sayable k ≡ true → (is_some r ≡ true → is_sayable q ≡ true) → is_some (cond b (Some v) r) ≡ true → is_sayable q ≡ true
said k q true v r same s old h = ap is_sayable (same refl) ∙ s
said k q false v r same s old h = old h

pub host_set : (m : Host) (k : Key) (v : List Record) → length v ≤ 65536 → IsHost m → is_sayable k ≡ true → has_room m k ≡ true → IsHost (insert m k v)
host_set m k v few h s room = record {
  few = subst (λ n. n ≤ 512) (sym (len-insert nat_list_cmp_total m k v)) (room_left (contains_key m k) (len m) h.few room);
  sayable = λ q e. said k q (eq_by_cmp (slice_cmp nat_cmp) q k) v (get m q) (key_of same_key q k) s (h.sayable q) (sym (ap is_some (get-insert nat_list_cmp_total m k v q)) ∙ e);
  short = λ q f e. set_short (eq_by_cmp (slice_cmp nat_cmp) q k) v (get m q) few (h.short q) f (sym (get-insert nat_list_cmp_total m k v q) ∙ e);
}

-- At most 8,388,608 bytes make at most 65,536 records.
pub records_few : (bytes : List ℕ) (f : List Record) → f ≡ records_in bytes → length bytes ≤ 8388608 → length f ≤ 65536
records_few bytes f e few =
    let count = ap length e ∙ length-map-range_with_len (padded_record_at bytes) 0 ((length bytes + 127) / 128) in
    omega arith

-- Host files stay within their limits, whether the file was set or not.
pub host_either : {E : Type 0} (m n : Host) (k : Key) (v : List Record) (r : Result (Unit {0}) E) → length v ≤ 65536 → OnOk r (n ≡ insert m k v) → OnErr r (n ≡ m) → IsHost m → is_sayable k ≡ true → has_room m k ≡ true → IsHost n
host_either m n k v (Ok x) few ok err h s room = subst IsHost (sym ok) (host_set m k v few h s room)
host_either m n k v (Err e) few ok err h s room = subst IsHost (sym err) h
