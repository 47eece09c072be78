-- A value that a key may hold, case by case. Assumes nothing.
use Rattle.std.proofs.Common.{ℕ, ◌<◌, ◌≡◌, Bool, true, ◌&&◌, ◌||◌, List, arith, eqb-true, eqb, leb, ltb, length}
use Rattle.lists.specs.Tests.{cases, and_left, and_right, or_other}
use Rattle.lists.specs.Lists.{every, same}
use Rattle.register.specs.Limits.{id_limit}
use Rattle.rights.specs.Rights.{is_right}
use Rattle.actions.specs.Actions.{use_limit, flag_count}
use Rattle.json_rules.specs.Names.{default_domain, id_place, actor_place, kind_place, read_place, write_place, execute_place, flags_place, domain_place, depth_place}
use Rattle.json_rules.specs.Members.{Setting, Value, letters, figure, figures, settings, is_id_text, is_full_set}
use Rattle.json_rules.specs.Fitting.{value_fits}
use Rattle.json_rules.specs.Items.{key_count}

-- the keys of resources
abbrev pub is_listed : ℕ → Bool
is_listed k = eqb k read_place || (eqb k write_place || eqb k execute_place)

pub listed_cases : (P : ℕ → Type 0) → P read_place → P write_place → P execute_place → (k : ℕ) → is_listed k ≡ true → P k
listed_cases P r w x k h =
    cases (eqb k read_place) (λ e. rw (eqb-true k read_place e) r)
    (λ n. let rest = or_other (eqb k read_place) (eqb k write_place || eqb k execute_place) h n in
    cases (eqb k write_place) (λ e. rw (eqb-true k write_place e) w)
    (λ n. rw (eqb-true k execute_place (or_other (eqb k write_place) (eqb k execute_place) rest n)) x))

-- a key told to be at a place, and a test told to pass beside it
at_place : (P : ℕ → Type 0) (j k : ℕ) (b : Bool) → (b ≡ true → P j) → eqb k j && b ≡ true → P k
at_place P j k b f h = rw (eqb-true k j (and_left (eqb k j) b h)) (f (and_right (eqb k j) b h))

module _ (P : ℕ → Value → Type 0)
    (id : (x : List ℕ) → is_id_text x ≡ true → P id_place (letters x))
    (domain : (x : List ℕ) → same default_domain x ≡ true → P domain_place (letters x))
    (actor : (n : ℕ) → leb n id_limit ≡ true → P actor_place (figure n))
    (kind : (n : ℕ) → is_right n ≡ true → P kind_place (figure n))
    (depth : (n : ℕ) → eqb n 0 ≡ true → P depth_place (figure n))
    (resources : (k : ℕ) (ns : List ℕ) → is_listed k ≡ true → leb (length ns) use_limit ≡ true → every (λ n. leb n id_limit) ns ≡ true → P k (figures ns))
    (flags : (ss : List Setting) → is_full_set ss ≡ true → every (λ s. ltb s.flag flag_count) ss ≡ true → P flags_place (settings ss)) where
  -- what holds of each key with its own values holds of every value that a key may hold
  pub value_cases : (k : ℕ) (v : Value) → value_fits k v ≡ true → P k v
  unfolding value_fits
  value_cases k (letters x) h =
      cases (eqb k id_place && is_id_text x) (at_place (λ k. P k (letters x)) id_place k (is_id_text x) (id x))
      (λ n. at_place (λ k. P k (letters x)) domain_place k (same default_domain x) (domain x)
      (or_other (eqb k id_place && is_id_text x) (eqb k domain_place && same default_domain x) h n))
  value_cases k (figure m) h =
      cases (eqb k actor_place && leb m id_limit) (at_place (λ k. P k (figure m)) actor_place k (leb m id_limit) (actor m))
      (λ n. let others = or_other (eqb k actor_place && leb m id_limit) ((eqb k kind_place && is_right m) || (eqb k depth_place && eqb m 0)) h n in
      cases (eqb k kind_place && is_right m) (at_place (λ k. P k (figure m)) kind_place k (is_right m) (kind m))
      (λ n. at_place (λ k. P k (figure m)) depth_place k (eqb m 0) (depth m) (or_other (eqb k kind_place && is_right m) (eqb k depth_place && eqb m 0) others n)))
  value_cases k (figures ns) h =
      let fit = and_right (is_listed k) (leb (length ns) use_limit && every (λ n. leb n id_limit) ns) h in
      resources k ns (and_left (is_listed k) (leb (length ns) use_limit && every (λ n. leb n id_limit) ns) h)
      (and_left (leb (length ns) use_limit) (every (λ n. leb n id_limit) ns) fit) (and_right (leb (length ns) use_limit) (every (λ n. leb n id_limit) ns) fit)
  value_cases k (settings ss) h =
      let within = every (λ s. ltb s.flag flag_count) ss in
      at_place (λ k. P k (settings ss)) flags_place k (is_full_set ss && within)
      (λ t. flags ss (and_left (is_full_set ss) within t) (and_right (is_full_set ss) within t)) h

-- a key that may hold something is one of the nine
pub key_below : (k : ℕ) (v : Value) → value_fits k v ≡ true → k < key_count
key_below =
    value_cases (λ k v. k < key_count) (λ x t. omega arith) (λ x t. omega arith) (λ n t. omega arith) (λ n t. omega arith) (λ n t. omega arith)
    (λ k ns place few fit. listed_cases (λ k. k < key_count) (omega arith) (omega arith) (omega arith) k place) (λ ss full fit. omega arith)
