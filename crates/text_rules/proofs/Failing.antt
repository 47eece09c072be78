-- Texts of a register and of an action that are the same up to and with the line at which the first one fails get one answer (Agreeing). Assumes nothing.
use Rattle.std.proofs.Common.{ℕ, suc, ◌-◌, ◌≤◌, ◌≡◌, refl, sym, ap, subst, ◌∙◌, Bool, true, false, List, [], ◌∷◌, inl, inr, arith}
use Rattle.lists.specs.Tests.{cases}
use Rattle.register.specs.Limits.{actor_limit, resource_limit, claim_limit, tells_left}
use Rattle.register.specs.Chain.{latest}
use Rattle.register.specs.declared.Register.{Register}
use Rattle.soundness_rules.specs.Sound.{sound, each_stored}
use Rattle.actions.specs.Actions.{use_limit, govern_limit}
use Rattle.actions.specs.declared.Action.{Action}
use Rattle.refusals.specs.declared.Refusal.{Refusal}
use Rattle.lines.specs.Reading.{State, going, failed, Read, read_form, read_scope}
use Rattle.text_rules.specs.Keys.{actors_key, resources_key, claims_key, uses_key, governs_key}
use Rattle.text_rules.specs.FirstLines.{first_lines}
use Rattle.text_rules.specs.Records.{section}
use Rattle.text_rules.specs.Registers.{actor_forms, actor_from, read_actor, resource_forms, resource_from, read_resource, claim_forms, claim_from, read_claim, read_actors, read_resources, read_claims, held_actors, held_resources, held_claims, version_form, register_from, register_read, register_ending}
use Rattle.text_rules.specs.Actions.{head_forms, use_forms, use_from, read_use, govern_form, read_govern, read_uses, read_governs, read_action, action_from, action_of, action_read, action_ending}
use Rattle.text_rules.proofs.Answering.{judged}
use Rattle.text_rules.proofs.Agreeing.{Local, StateAlike, Agrees, Past, in_turn, lines_read, ending, within_plain, all_plain, form_local, scope_local, in_turn_local, none_local, forms_local, section_local, ending_local}

-- things of some lines: an actor, a resource, a claim, a use, a governed entry
module _ (m : ℕ) where
  actor_local : Local m read_actor
  actor_local =
      in_turn_local m (lines_read actor_forms) (λ ns st. record { value = ns; state = st }) (λ ns same. actor_from ns)
      (forms_local m actor_forms (all_plain actor_forms refl)) (λ ns. none_local m ns)

  resource_local : Local m read_resource
  resource_local = in_turn_local m (lines_read resource_forms) (λ ns. read_scope) resource_from (forms_local m resource_forms (all_plain resource_forms refl)) (λ ns. scope_local m)

  claim_local : (version : ℕ) → Local m (read_claim version)
  claim_local version =
      in_turn_local m (lines_read (claim_forms version)) (λ ns st. record { value = ns; state = st }) (λ ns same. claim_from version ns)
      (forms_local m (claim_forms version) (all_plain (claim_forms version) (cases (tells_left version) (λ e. rw e) (λ e. rw e)))) (λ ns. none_local m ns)

  use_local : Local m read_use
  use_local =
      in_turn_local m (lines_read use_forms) (λ ns st. record { value = ns; state = st }) (λ ns same. use_from ns)
      (forms_local m use_forms (all_plain use_forms refl)) (λ ns. none_local m ns)

  -- their lists
  actors_local : Local m read_actors
  unfolding read_actors
  actors_local = section_local m actors_key actor_limit read_actor (within_plain actors_key refl) actor_local

  resources_local : Local m read_resources
  unfolding read_resources
  resources_local = section_local m resources_key resource_limit read_resource (within_plain resources_key refl) resource_local

  claims_local : (version : ℕ) → Local m (read_claims version)
  unfolding read_claims
  claims_local version =
      in_turn_local m (section claims_key claim_limit (read_claim version)) (λ cs st. record { value = cs; state = st }) (λ cs same. latest (each_stored version (latest cs)))
      (section_local m claims_key claim_limit (read_claim version) (within_plain claims_key refl) (claim_local version)) (λ cs. none_local m cs)

  uses_local : Local m read_uses
  unfolding read_uses
  uses_local = section_local m uses_key use_limit read_use (within_plain uses_key refl) use_local

  governs_local : Local m read_governs
  unfolding read_governs
  governs_local = section_local m governs_key govern_limit read_govern (within_plain governs_key refl) (form_local m govern_form (all_plain (govern_form ∷ []) refl).0)

  -- the register and the action of a text, each as one reading
  abbrev register_reading : State → Read Register
  register_reading =
      in_turn (read_form version_form)
      (λ version. in_turn read_actors
      (λ actors. in_turn read_resources
      (λ resources. in_turn (read_claims version)
      (λ claims. ending (record { actors = held_actors actors; resources = held_resources resources; claims = held_claims claims; version = version }))
      (λ claims r. r)) (λ resources r. r)) (λ actors r. r)) (λ version r. r)

  register_local : Local m register_reading
  register_local =
      in_turn_local m (read_form version_form) _ (λ version r. r) (form_local m version_form (all_plain (version_form ∷ []) refl).0)
      (λ version. in_turn_local m read_actors _ (λ actors r. r) actors_local
      (λ actors. in_turn_local m read_resources _ (λ resources r. r) resources_local
      (λ resources. in_turn_local m (read_claims version) _ (λ claims r. r) (claims_local version)
      (λ claims. ending_local m (record { actors = held_actors actors; resources = held_resources resources; claims = held_claims claims; version = version })))))

  abbrev action_reading : State → Read Action
  action_reading =
      in_turn (lines_read head_forms) (λ head. in_turn read_uses (λ uses. in_turn read_governs (λ governs. ending (action_from head uses governs)) (λ governs a. a)) (λ uses a. a)) (λ head a. a)

  action_local : Local m action_reading
  action_local =
      in_turn_local m (lines_read head_forms) _ (λ head a. a) (forms_local m head_forms (all_plain head_forms refl))
      (λ head. in_turn_local m read_uses _ (λ uses a. a) uses_local
      (λ uses. in_turn_local m read_governs _ (λ governs a. a) governs_local (λ governs. ending_local m (action_from head uses governs))))

register_reading_lem : (t : List ℕ) → register_from t ≡ register_reading 0 (going t 1)
unfolding register_from
register_reading_lem t = refl

action_reading_lem : (t : List ℕ) → action_of t ≡ action_reading 0 (going t 1)
unfolding action_of read_action
action_reading_lem t = refl

state_clash : {t : List ℕ} {l m : ℕ} {why : Refusal} → going t l ≡ failed why m → ⊥
state_clash e = let never : ◌≡◌ {A = ℕ} 0 1 = cc in omega arith

failed_line : {l m : ℕ} {why other : Refusal} → failed why l ≡ failed other m → l ≡ m
failed_line e = cc

-- what fails at a line fails so in every text with the same lines up to it
failed_alike : {A : Type 0} (m : ℕ) (read : State → Read A) → Local m read → (t u : List ℕ) (why : Refusal) → (read (going t 1)).state ≡ failed why m
    → first_lines m t ≡ first_lines m u → (read (going u 1)).state ≡ failed why m
failed_alike {A} m read local t u why fails same =
    go (read (going t 1)) (read (going u 1)) fails (local.on (going t 1) (going u 1) (refl, subst (λ k. first_lines k t ≡ first_lines k u) lines_left same))
  where
    lines_left : m ≡ suc m - 1
    lines_left = omega arith

    stands : (st su : State) → st ≡ failed why m → StateAlike m st su → su ≡ failed why m
    stands (going t l) su e alike = absurd (state_clash e)
    stands (failed other l) (going u k) e alike = absurd alike
    stands (failed other l) (failed another k) e alike = subst (λ w. failed w k ≡ failed why m) alike.0 (subst (λ j. failed other j ≡ failed why m) alike.1 e)

    not_past : (st : State) → st ≡ failed why m → Past m st → ⊥
    not_past (going t l) e h = state_clash e
    not_past (failed other l) e h = omega (arith, h, failed_line e)

    go : (x y : Read A) → x.state ≡ failed why m → Agrees m x y → y.state ≡ failed why m
    go x y e (inl alike) = stands x.state y.state e alike.1
    go x y e (inr past) = absurd (not_past x.state e past)

-- an answer with a line from 1 on is that of a reading that failed there
no_line : (r : Register) (b : Bool) → (judged r b).line ≡ 0
no_line r true = refl
no_line r false = refl

register_failed : (r : Register) (st : State) → 1 ≤ (register_ending r st).line → (why : Refusal) × (st ≡ failed why (register_ending r st).line)
register_failed r (going t l) told = absurd (omega (arith, told, no_line r (sound r)))
register_failed r (failed why l) told = (why, refl)

action_failed : (a : Action) (st : State) → 1 ≤ (action_ending a st).line → (why : Refusal) × (st ≡ failed why (action_ending a st).line)
action_failed a (going t l) told = absurd (omega (arith, told))
action_failed a (failed why l) told = (why, refl)

register_answer_lem : (r s : Register) (st su : State) (why : Refusal) (l : ℕ) → st ≡ failed why l → su ≡ failed why l → register_ending r st ≡ register_ending s su
register_answer_lem r s st su why l first second = rw (first, second)

action_answer_lem : (a b : Action) (st su : State) (why : Refusal) (l : ℕ) → st ≡ failed why l → su ≡ failed why l → action_ending a st ≡ action_ending b su
action_answer_lem a b st su why l first second = rw (first, second)

pub line_decides : (t u : List ℕ) → 1 ≤ (register_read t).line → first_lines (register_read t).line t ≡ first_lines (register_read t).line u
    → register_read u ≡ register_read t
unfolding register_read
line_decides t u told same =
    let read = register_from t in
    let other = register_from u in
    let m = (register_ending read.value read.state).line in
    let fails = register_failed read.value read.state told in
    let here : (register_reading m (going t 1)).state ≡ failed fails.0 m = ap (λ x. x.state) (sym (register_reading_lem t)) ∙ fails.1 in
    let there = failed_alike m (register_reading m) (register_local m) t u fails.0 here same in
    register_answer_lem other.value read.value other.state read.state fails.0 m (ap (λ x. x.state) (register_reading_lem u) ∙ there) fails.1

pub action_line_decides : (t u : List ℕ) → 1 ≤ (action_read t).line → first_lines (action_read t).line t ≡ first_lines (action_read t).line u
    → action_read u ≡ action_read t
unfolding action_read
action_line_decides t u told same =
    let read = action_of t in
    let other = action_of u in
    let m = (action_ending read.value read.state).line in
    let fails = action_failed read.value read.state told in
    let here : (action_reading m (going t 1)).state ≡ failed fails.0 m = ap (λ x. x.state) (sym (action_reading_lem t)) ∙ fails.1 in
    let there = failed_alike m (action_reading m) (action_local m) t u fails.0 here same in
    action_answer_lem other.value read.value other.state read.state fails.0 m (ap (λ x. x.state) (action_reading_lem u) ∙ there) fails.1
