-- Which line and which refusal a reading names: a text that is not of the form is refused with 19 or 20 at a line from 1, and a register that is not
-- sound, and nothing else, at line 0; and what its failing line is refused with is what is answered. Assumes nothing.
use Rattle.std.proofs.Common.{Err, ℕ, ◌≤◌, ◌≡◌, refl, sym, ap, subst, Bool, true, false, List, ◌⊎◌, inl, inr, arith}
use Rattle.lists.specs.Tests.{cases}
use Rattle.register.specs.Limits.{actor_limit, resource_limit, claim_limit, tells_left}
use Rattle.register.specs.declared.Register.{Register}
use Rattle.soundness_rules.specs.Sound.{sound}
use Rattle.actions.specs.declared.Action.{Action}
use Rattle.refusals.proofs.Laws.{refused_same}
use Rattle.refusals.specs.declared.Refusal.{Refusal}
use Rattle.refusals.specs.declared.Refusal.TheVariants.{Unsound, Form, Count}
use Rattle.lines.specs.Reading.{State, going, failed, read_form}
use Rattle.text_rules.specs.Keys.{actors_key, resources_key, claims_key}
use Rattle.text_rules.specs.Records.{passed}
use Rattle.text_rules.specs.Registers.{actor_forms, resource_forms, claim_forms, read_actor, read_resource, read_claim, read_actors, read_resources, read_claims, version_form, register_from, register_read, register_ending}
use Rattle.text_rules.specs.Actions.{read_action, action_of, action_read, action_ending}
use Rattle.text_rules.specs.Telling.{Told, form_told, scope_told, passed_told, section_told, closed_told, action_lines_told}
use Rattle.text_rules.specs.declared.RegisterRead.{RegisterRead}
use Rattle.text_rules.specs.declared.ActionRead.{ActionRead}
use Rattle.text_rules.proofs.Answering.{judged}

-- the refusals that the lines of a register and of an action have
abbrev Faulty : Refusal → Type 0
Faulty why = (why ≡ Form) ⊎ (why ≡ Count)

by_form : Faulty Form
by_form = inl refl

by_count : Faulty Count
by_count = inr refl

resource_told : (st : State) → Told Faulty st → Told Faulty (read_resource st).state
resource_told st told =
    scope_told Faulty by_form by_count (passed resource_forms st) (passed_told Faulty by_form by_count resource_forms (by_form, (by_form, (by_form, tt))) st told)

claim_told : (version : ℕ) (st : State) → Told Faulty st → Told Faulty (read_claim version st).state
claim_told version = passed_told Faulty by_form by_count (claim_forms version)
    (by_form, (by_form, (by_form, (by_form, (by_form, (by_form, (by_form, cases (tells_left version) (λ e. rw e (by_form, (by_form, tt))) (λ e. rw e (by_form, tt)))))))))

-- a whole reading is told
register_told : (t : List ℕ) → Told Faulty (register_from t).state
unfolding register_from read_actors read_resources read_claims
register_told t =
    let version = read_form version_form (going t 1) in
    let actors = read_actors version.state in
    let resources = read_resources actors.state in
    let claims = read_claims version.value resources.state in
    closed_told Faulty by_form by_count claims.state
    (section_told Faulty by_form by_count claims_key claim_limit (read_claim version.value) (claim_told version.value) resources.state
    (section_told Faulty by_form by_count resources_key resource_limit read_resource resource_told actors.state
    (section_told Faulty by_form by_count actors_key actor_limit read_actor (passed_told Faulty by_form by_count actor_forms (by_form, (by_form, (by_form, tt))))
    version.state (form_told Faulty by_form by_count version_form by_form (going t 1) (omega arith)))))

whole_told : (t : List ℕ) → Told Faulty (action_of t).state
unfolding action_of
whole_told t = closed_told Faulty by_form by_count (read_action (going t 1)).state (action_lines_told Faulty by_form by_count (going t 1) (omega arith))

answer_line : (r : Register) (st : State) (why : Refusal) → Told Faulty st → (register_ending r st).outcome ≡ Err why →
    ((why ≡ Unsound) × ((register_ending r st).line ≡ 0)) ⊎ (((why ≡ Form) ⊎ (why ≡ Count)) × (1 ≤ (register_ending r st).line))
answer_line r (failed fault l) why told h = inr (subst Faulty (refused_same h) told.1, told.0)
answer_line r (going t l) why told h = inl (go (sound r) h)
  where
    go : (b : Bool) → (judged r b).outcome ≡ Err why → (why ≡ Unsound) × ((judged r b).line ≡ 0)
    go true k = let never : ◌≡◌ {A = ℕ} 0 1 = cc in absurd (omega arith)
    go false k = (sym (refused_same k), refl)

action_answer_line : (a : Action) (st : State) (why : Refusal) → Told Faulty st → (action_ending a st).outcome ≡ Err why →
    ((why ≡ Form) ⊎ (why ≡ Count)) × (1 ≤ (action_ending a st).line)
action_answer_line a (failed fault l) why told h = (subst Faulty (refused_same h) told.1, told.0)
action_answer_line a (going t l) why told h = let never : ◌≡◌ {A = ℕ} 0 1 = cc in absurd (omega arith)

pub refused_line_lem : (t : List ℕ) (why : Refusal) → (register_read t).outcome ≡ Err why →
    ((why ≡ Unsound) × ((register_read t).line ≡ 0)) ⊎ (((why ≡ Form) ⊎ (why ≡ Count)) × (1 ≤ (register_read t).line))
unfolding register_read
refused_line_lem t why h = answer_line (register_from t).value (register_from t).state why (register_told t) h

pub action_refused_line : (t : List ℕ) (why : Refusal) → (action_read t).outcome ≡ Err why →
    ((why ≡ Form) ⊎ (why ≡ Count)) × (1 ≤ (action_read t).line)
unfolding action_read
action_refused_line t why h = action_answer_line (action_of t).value (action_of t).state why (whole_told t) h

-- what the failing line is refused with is what is answered
pub refused_number : (t : List ℕ) (why : Refusal) (l : ℕ) → (register_from t).state ≡ failed why l
    → ((register_read t).outcome ≡ Err why) × ((register_read t).line ≡ l)
unfolding register_read
refused_number t why l e =
    let same = ap (register_ending (register_from t).value) e in (ap (λ (x : RegisterRead). x.outcome) same, ap (λ (x : RegisterRead). x.line) same)

pub action_refused_number : (t : List ℕ) (why : Refusal) (l : ℕ) → (action_of t).state ≡ failed why l
    → ((action_read t).outcome ≡ Err why) × ((action_read t).line ≡ l)
unfolding action_read
action_refused_number t why l e =
    let same = ap (action_ending (action_of t).value) e in (ap (λ (x : ActionRead). x.outcome) same, ap (λ (x : ActionRead). x.line) same)
