-- Which of the nine keys some tests leave. Assumes nothing.
use Rattle.std.proofs.Common.{ℕ, ◌≤◌, ◌≡◌, true, ◌&&◌, ◌||◌, arith, ne_eqb, eqb-true, leb-true, eqb, leb}
use Rattle.lists.specs.Tests.{cases, and_left, and_right, or_other}
use Rattle.json_rules.specs.Names.{id_place, actor_place, kind_place, read_place, execute_place, flags_place, domain_place, depth_place}
use Rattle.json_reading.specs.Answers.{is_text_key, is_figure_key}

-- the keys whose number is kept
pub single_key : (key : ℕ) → eqb key actor_place || eqb key kind_place ≡ true → (actor_place ≤ key) × (key ≤ kind_place)
single_key key h =
    cases (eqb key actor_place) (λ e. let one = eqb-true key actor_place e in (omega arith, omega arith))
    (λ n. let two = eqb-true key kind_place (or_other (eqb key actor_place) (eqb key kind_place) h n) in (omega arith, omega arith))

-- the last of the keys that hold a text
pub domain_last : (key : ℕ) → is_text_key key ≡ true → (key ≡ id_place → ⊥) → (key ≡ kind_place → ⊥) → key ≡ domain_place
domain_last key h f g =
    eqb-true key domain_place
    (or_other (eqb key kind_place) (eqb key domain_place)
    (or_other (eqb key id_place) (eqb key kind_place || eqb key domain_place) h (ne_eqb key id_place f)) (ne_eqb key kind_place g))

-- the last of the keys whose code answers a number
pub depth_last : (key : ℕ) → is_figure_key key ≡ true → (key ≡ actor_place → ⊥) → (key ≡ flags_place → ⊥) → key ≡ depth_place
depth_last key h f g =
    eqb-true key depth_place
    (or_other (eqb key flags_place) (eqb key depth_place)
    (or_other (eqb key actor_place) (eqb key flags_place || eqb key depth_place) h (ne_eqb key actor_place f)) (ne_eqb key flags_place g))

-- which keys the code's tests leave
pub list_key : (key : ℕ) → leb read_place key && leb key execute_place ≡ true → (read_place ≤ key) × (key ≤ execute_place)
list_key key h =
    let low = and_left (leb read_place key) (leb key execute_place) h in
    let high = and_right (leb read_place key) (leb key execute_place) h in
    (leb-true read_place key low, leb-true key execute_place high)
