-- A loop over the places of a text where actions begin: the action read there stops the plan, or its verdict is held and it is kept whether the later
-- ones are cancelled. Assumes nothing.
use Rattle.std.proofs.Common.{Result, Err, Ok, ◌≡◌, refl, sym, ap, ◌∙◌, Bool, false, not, ◌||◌, cond, List, [], ◌∷◌, ◌++◌, map, append-nil, ℕ, zero, suc, ◌+◌, ◌-◌, ◌≤◌, ◌<◌, arith, add-one, eqb, length, take, drop, get_or, set, replicate, length-take, length-append, drop_of_length-le, length-take-le}
use lib.ListN.{length-map}
use lib.Seq.{append_snoc}
use Rattle.lists.specs.Fills.{put_first}
use Rattle.lists.specs.Loops.{drop_at}
use Rattle.refusals.specs.Refusals.{outcome_of}
use Rattle.refusals.specs.declared.Refusal.{Refusal}
use Rattle.actions.specs.declared.Action.{Action}
use Rattle.actions.specs.declared.Judgement.{Judgement}
use Rattle.actions.specs.declared.Judgement.TheVariants.{Permitted, Cancelled}
use Rattle.gate_rules.specs.Plans.{runs}
use Rattle.gate.specs.Judged.{Lent, lent_tests, lent_judged}
use Rattle.plans.specs.Stops.{halt_by}
use Rattle.plans.specs.Judgements.{judged_as, judgements_by}
use Rattle.plans.specs.Laws.{halt_by_nil, halt_by_pass, halt_by_fail, judgements_by_nil, judgements_by_cons}
use Rattle.steps.specs.Steps.{text_action_limit}
use Rattle.steps.specs.Judging.{held_text, stopped_plan, text_verdict}
use Rattle.steps.specs.declared.PlanTextVerdict.{PlanTextVerdict}
use Rattle.step_reading.specs.Finding.{action_at, actions_at}
use Rattle.step_reading.specs.declared.Places.{Places}

-- the actions at places, from the i-th on
drop_mapped : {A B : Type 0} (f : A → B) (i : ℕ) (l : List A) → drop i (map f l) ≡ map f (drop i l)
drop_mapped f zero l = refl
drop_mapped f (suc i) [] = refl
drop_mapped f (suc i) (x ∷ l) = drop_mapped f i l

places_left : (s : List ℕ) (p : Places) (i : ℕ) → i < p.count → p.count ≤ text_action_limit → length p.list ≡ text_action_limit
    → drop i (actions_at s p) ≡ action_at s (get_or p.list i 0) ∷ drop (i + 1) (actions_at s p)
unfolding actions_at
places_left s p i h few long =
    let below : i < length (take p.count p.list) = omega (arith, length-take p.count p.list) in
    drop_mapped (action_at s) i (take p.count p.list) ∙ ap (map (action_at s)) (drop_at p.count p.list i 0 below)
    ∙ ap (λ l. action_at s (get_or p.list i 0) ∷ l) (sym (drop_mapped (action_at s) (i + 1) (take p.count p.list)))

places_length : (s : List ℕ) (p : Places) → p.count ≤ text_action_limit → length p.list ≡ text_action_limit → length (actions_at s p) ≡ p.count
unfolding actions_at
places_length s p few long = length-map (take p.count p.list) (action_at s) ∙ length-take-le p.count p.list (omega arith)

-- the loop has come to place i: none before it stops the plan, the verdicts on those before it are in their places, and the others have the verdicts
-- that are left
pub record Judging (l : Lent) (names : List ℕ) (n : ℕ) (s : List ℕ) (p : Places) (list : List Judgement) (cancelled : Bool) (i : ℕ) : Type 0 where
  pub within : i ≤ p.count
  pub few : p.count ≤ text_action_limit
  pub sized : length p.list ≡ text_action_limit
  pub going_on : halt_by names n 0 (actions_at s p) ≡ halt_by names n i (drop i (actions_at s p))
  pub passed : List Judgement
  pub long : length passed ≡ i
  pub put : list ≡ passed ++ replicate (text_action_limit - i) Permitted
  pub ahead : judgements_by l false (actions_at s p) ≡ passed ++ judgements_by l cancelled (drop i (actions_at s p))

put_next : (passed : List Judgement) (i : ℕ) (v : Judgement) → length passed ≡ i → i < text_action_limit
    → set (passed ++ replicate (text_action_limit - i) Permitted) i v
    ≡ (passed ++ (v ∷ [])) ++ replicate (text_action_limit - (i + 1)) Permitted
put_next passed i v e h = put_first passed text_action_limit i Permitted v e h

held_same : (l : List Judgement) (n : ℕ) (vs : List Judgement) → n ≡ length vs → l ≡ vs ++ replicate (text_action_limit - length vs) Permitted
    → ◌≡◌ {A = PlanTextVerdict} (record { outcome = Ok tt; line = 0; position = 0; list = l; count = n }) (held_text vs)
held_same l n vs e f = rw (e, f)

-- the answer by what is lent
abbrev pub answer_by : Lent → List ℕ → ℕ → List Action → PlanTextVerdict
answer_by l names n actions = text_verdict (halt_by names n 0 actions) (judgements_by l false actions)

module _ {l : Lent} {names : List ℕ} {n : ℕ} {s : List ℕ} {p : Places} where
  pub judging_start : p.count ≤ text_action_limit → length p.list ≡ text_action_limit → {list : List Judgement}
      → list ≡ replicate text_action_limit Permitted → Judging l names n s p list false 0
  judging_start few sized none = record {
    within = omega arith;
    few = few;
    sized = sized;
    going_on = refl;
    passed = [];
    long = refl;
    put = none;
    ahead = refl;
  }

  module _ {list : List Judgement} {cancelled : Bool} {i : ℕ} (j : Judging l names n s p list cancelled i) where
    module _ (h : i < p.count) {a : Action} (read : a ≡ action_at s (get_or p.list i 0)) where
      left : drop i (actions_at s p) ≡ a ∷ drop (i + 1) (actions_at s p)
      left = places_left s p i h j.few j.sized ∙ ap (λ b. b ∷ drop (i + 1) (actions_at s p)) (sym read)

      pub judging_stop : {outcome : Result Unit Refusal} {why : Refusal} → outcome ≡ outcome_of (lent_tests names n a) → outcome ≡ Err why → stopped_plan why 0 i ≡ answer_by l names n (actions_at s p)
      judging_stop {why = why} asked e =
          sym (ap (λ x. text_verdict x (judgements_by l false (actions_at s p)))
          (j.going_on ∙ ap (halt_by names n i) left ∙ halt_by_fail names n i a (drop (i + 1) (actions_at s p)) why (sym asked ∙ e)))

      pub judging_next : {outcome : Result Unit Refusal} {v : Judgement} → outcome ≡ outcome_of (lent_tests names n a) → outcome ≡ Ok tt
          → v ≡ cond cancelled Cancelled (judged_as (lent_judged l a).violations.count)
          → Judging l names n s p (set list i v) (cancelled || not (eqb a.flags 0)) (i + 1)
      judging_next {v = v} asked e verdict =
          let later = cancelled || not (eqb a.flags 0) in
          let rest = drop (i + 1) (actions_at s p) in
          let most = j.few in
          record {
            within = omega arith;
            few = j.few;
            sized = j.sized;
            going_on = j.going_on ∙ ap (halt_by names n i) left ∙ halt_by_pass names n i a rest (sym asked ∙ e) ∙ ap (λ m. halt_by names n m rest) (sym (add-one i));
            passed = j.passed ++ (v ∷ []);
            long = length-append j.passed (v ∷ []) ∙ ap (λ m. m + 1) j.long;
            put = rw j.put (put_next j.passed i v j.long (omega arith));
            ahead = j.ahead
                ∙ ap (λ m. j.passed ++ judgements_by l cancelled m) left
                ∙ ap (λ m. j.passed ++ m) (judgements_by_cons l cancelled a rest ∙ ap (λ w. w ∷ judgements_by l later rest) (sym verdict))
                ∙ sym (append_snoc j.passed v (judgements_by l later rest));
          }

    -- after the loop none stops it, and the verdicts are held
    pub judging_done : p.count ≤ i → ◌≡◌ {A = PlanTextVerdict} (record { outcome = Ok tt; line = 0; position = 0; list = list; count = p.count })
        (answer_by l names n (actions_at s p))
    judging_done h =
        let past : length (actions_at s p) ≤ i = omega (arith, places_length s p j.few j.sized) in
        let end = drop_of_length-le (actions_at s p) past in
        let all : judgements_by l false (actions_at s p) ≡ j.passed =
        j.ahead ∙ ap (λ m. j.passed ++ judgements_by l cancelled m) end ∙ ap (λ m. j.passed ++ m) (judgements_by_nil l cancelled) ∙ append-nil j.passed in
        let none : halt_by names n 0 (actions_at s p) ≡ runs = j.going_on ∙ ap (halt_by names n i) end ∙ halt_by_nil names n i in
        let inside = j.within in
        let long = j.long in
        rw (none, all) (held_same list p.count j.passed (omega arith) (rw long j.put))
