-- Laws: A loop over the actions of a plan that holds the verdict on each in its place, with permitted past them, and keeps whether the later ones are
-- cancelled, for any verdicts. Assumes nothing.
use Rattle.std.specs.Prelude.{◌≡◌, refl, Bool, false, List, [], ◌∷◌, ◌++◌, ℕ, ◌+◌, ◌-◌, ◌≤◌, ◌<◌, min, length, drop, get_or, set, replicate, Ok}
use Rattle.std.proofs.Common.{sym, ap, ◌∙◌, append-nil, arith, length-take, length-append, drop_of_length-le}
use Rattle.std.proofs.Math.Seq.{append_snoc}
use Rattle.lists.specs.Fills.{put_first}
use Rattle.lists.specs.Loops.{drop_at}
use Rattle.actions.specs.Actions.{action_limit}
use Rattle.actions.specs.declared.Action.{Action}
use Rattle.actions.specs.declared.Judgement.{Judgement}
use Rattle.actions.specs.declared.Judgement.TheVariants.{Permitted}
use Rattle.actions.specs.declared.Plan.{Plan}
use Rattle.actions.specs.declared.PlanVerdict.{PlanVerdict}
use Rattle.gate_rules.specs.Plans.{actions_of, held}

-- of the actions, of which there are top, the loop has come to place i: the verdicts on those before it are in their places, with permitted past
-- them, and the others have the verdicts that are left
pub record Holding (verdicts : Bool → List Action → List Judgement) (p : Plan) (top : ℕ) (list : List Judgement) (cancelled : Bool) (i : ℕ) : Type 0 where
  pub within : i ≤ top
  pub whole : top ≡ length (actions_of p)
  pub few : top ≤ action_limit
  pub passed : List Judgement
  pub long : length passed ≡ i
  pub put : list ≡ passed ++ replicate (action_limit - i) Permitted
  pub ahead : verdicts false (actions_of p) ≡ passed ++ verdicts cancelled (drop i (actions_of p))

-- a verdict put where the free places begin
put_next : (passed : List Judgement) (i : ℕ) (v : Judgement) → length passed ≡ i → i < action_limit
    → set (passed ++ replicate (action_limit - i) Permitted) i v
    ≡ (passed ++ (v ∷ [])) ++ replicate (action_limit - (i + 1)) Permitted
put_next passed i v e h = put_first passed action_limit i Permitted v e h

-- verdicts that are held with as many actions
held_verdicts : (l : List Judgement) (n : ℕ) (vs : List Judgement) → n ≡ length vs → l ≡ vs ++ replicate (action_limit - length vs) Permitted
    → ◌≡◌ {A = PlanVerdict} (record { outcome = Ok tt; position = 0; list = l; count = n }) (held vs)
held_verdicts l n vs e f = rw (e, f)

module _ {verdicts : Bool → List Action → List Judgement} {p : Plan} {top : ℕ} where
  pub holding_start : length p.actions ≡ action_limit → top ≡ min p.count action_limit
      → Holding verdicts p top (replicate action_limit Permitted) false 0
  holding_start h e =
      record {
        within = omega arith;
        whole = omega (arith, length-take p.count p.actions);
        few = omega arith;
        passed = [];
        long = refl;
        put = refl;
        ahead = refl;
      }

  module _ {list : List Judgement} {cancelled : Bool} {i : ℕ} (s : Holding verdicts p top list cancelled i) where
    module _ (d : Action) (h : i < top) where
      action_left : drop i (actions_of p) ≡ get_or p.actions i d ∷ drop (i + 1) (actions_of p)
      action_left = let below : i < length (actions_of p) = omega arith in drop_at p.count p.actions i d below

      -- to the next action, with the verdict on this one
      pub holding_next : {v : Judgement} {later : Bool}
          → verdicts cancelled (get_or p.actions i d ∷ drop (i + 1) (actions_of p)) ≡ v ∷ verdicts later (drop (i + 1) (actions_of p))
          → Holding verdicts p top (set list i v) later (i + 1)
      holding_next {v = v} {later = later} e =
          let rest = drop (i + 1) (actions_of p) in
          record {
            within = omega arith;
            whole = s.whole;
            few = s.few;
            passed = s.passed ++ (v ∷ []);
            long = length-append s.passed (v ∷ []) ∙ ap (λ n. n + 1) s.long;
            put = rw s.put (put_next s.passed i v s.long (omega arith));
            ahead = s.ahead
                ∙ ap (λ m. s.passed ++ verdicts cancelled m) action_left
                ∙ ap (λ m. s.passed ++ m) e
                ∙ sym (append_snoc s.passed v (verdicts later rest));
          }

    -- after the loop the verdicts are held
    pub holding_done : top ≤ i → verdicts cancelled [] ≡ []
        → ◌≡◌ {A = PlanVerdict} (record { outcome = Ok tt; position = 0; list = list; count = top }) (held (verdicts false (actions_of p)))
    holding_done h none =
        let past : length (actions_of p) ≤ i = omega arith in
        let all : verdicts false (actions_of p) ≡ s.passed =
        s.ahead ∙ ap (λ m. s.passed ++ verdicts cancelled m) (drop_of_length-le (actions_of p) past)
        ∙ ap (λ m. s.passed ++ m) none ∙ append-nil s.passed in
        rw all (held_verdicts list top s.passed (omega arith) (rw s.long s.put))
