-- A walk over the steps of a plan: what is found of the rest of them is what is found of all. Assumes nothing.
use Rattle.std.proofs.Common.{ℕ, suc, ◌+◌, ◌-◌, ◌≤◌, ◌<◌, ◌≡◌, refl, sym, ap, subst, ◌∙◌, true, List, [], ◌∷◌, ◌++◌, map, append_assoc, append-nil, arith, add-one, le-leb, length, take, set, length-set, length-append, take-suc-set}
use mathlib.Core.List.{map-append}
use native.Mathlib.Nat.{sub-zero}
use Rattle.refusals.specs.declared.Refusal.{Refusal}
use Rattle.refusals.specs.declared.Refusal.TheVariants.{Form}
use Rattle.lines.specs.Reading.{State, going, failed, Read, read_form, closed}
use Rattle.lines.specs.Answers.{FieldSays, state_of}
use Rattle.lines.specs.declared.Cursor.{Cursor}
use Rattle.lines.specs.declared.Reading.{Reading}
use Rattle.text_rules.specs.Actions.{read_action}
use Rattle.text_rules.proofs.Forms.{failed_going_clash}
use Rattle.text_rules.specs.Telling.{closed_going}
use Rattle.steps.specs.Steps.{Steps, no_step, actions_in, level_limit, text_action_limit, plan_form}
use Rattle.steps.specs.Nesting.{barred, opened, read_steps, read_plan, plan_of}
use Rattle.steps.specs.Laws.{steps_action, steps_plan, steps_barred, steps_none, steps_failed, plan_counted}
use Rattle.steps.specs.Shrinking.{remaining, action_shrinks, plan_shrinks}
use Rattle.step_reading.specs.Finding.{action_at, actions_at, Finds, TextFound}
use Rattle.step_reading.specs.declared.Places.{Places}
use Rattle.step_reading.proofs.Alike.{action_alike}
use Rattle.step_reading.proofs.Opening.{standing, OpensAction, OpensPlan}

-- the same actions, with the reading at another place
abbrev pub moving : Places → Cursor → Places
moving p c = record { list = p.list; count = p.count; cursor = c }

module _ (s : List ℕ) where
  -- an action read where a cursor stands is the one at its position
  action_placed : (c : Cursor) (t : List ℕ) (m : ℕ) → state_of s c ≡ going t m → action_at s c.at ≡ (read_action (going t m)).value
  action_placed c t m h =
      let at = standing s c t m h in
      let here : state_of s (record { at = c.at; line = 0; on = true; refusal = Form }) ≡ going t 1 =
      rw (le-leb c.at (length s) at.within, le-leb 0 c.at (omega arith)) (ap (λ u. going u 1) at.before) in
      ap (λ st. (read_action st).value) here ∙ action_alike t 1 m

  -- one action more
  actions_put : (p q : Places) (at : ℕ) → length p.list ≡ text_action_limit → p.count < text_action_limit → q.list ≡ set p.list p.count at
      → q.count ≡ p.count + 1 → actions_at s q ≡ actions_at s p ++ (action_at s at ∷ [])
  unfolding actions_at
  actions_put p q at long some put more =
      let room : p.count < length p.list = omega arith in
      rw (more, put, add-one) (ap (map (action_at s)) (take-suc-set p.list p.count at room) ∙ map-append (action_at s) (take p.count p.list) (at ∷ []))

  actions_none : (p : Places) → p.count ≡ 0 → actions_at s p ≡ []
  unfolding actions_at
  actions_none p none = rw none

  actions_moved : (p : Places) (c : Cursor) → actions_at s (moving p c) ≡ actions_at s p
  unfolding actions_at
  actions_moved p c = refl

  state_cases : {A : Type 0} (st : State) → ((t : List ℕ) (l : ℕ) → st ≡ going t l → A) → ((why : Refusal) (l : ℕ) → st ≡ failed why l → A) → A
  state_cases (going t l) f g = f t l refl
  state_cases (failed why l) f g = g why l refl

  -- no steps, and a step that does not open: nothing is found
  finds_nothing : (p : Places) (c : Cursor) (read : Read Steps) → p.count ≤ text_action_limit → length p.list ≡ text_action_limit
      → read ≡ record { value = no_step; state = state_of s c } → Finds s p (moving p c) read
  unfolding actions_in
  finds_nothing p c read room sized e = subst (Finds s p (moving p c)) (sym e) (record {
    state = refl;
    room = room;
    sized = sized;
    count = λ rest l g. omega arith;
    actions = λ rest l g. actions_moved p c ∙ sym (append-nil (actions_at s p));
  })

  module _ (plan : ℕ → State → Read Steps) (levels : ℕ) where
    pub finds_none : (p : Places) → p.count ≤ text_action_limit → length p.list ≡ text_action_limit
        → Finds s p p (read_steps plan levels 0 (text_action_limit - p.count) (state_of s p.cursor))
    finds_none p room sized = finds_nothing p p.cursor _ room sized (steps_none plan levels (text_action_limit - p.count) (state_of s p.cursor))

    module _ (k : ℕ) (p : Places) where
      abbrev all : Read Steps
      all = read_steps plan levels (suc k) (text_action_limit - p.count) (state_of s p.cursor)

      pub finds_barred : (c : Cursor) → p.count ≤ text_action_limit → length p.list ≡ text_action_limit
          → opened levels (text_action_limit - p.count) (state_of s p.cursor) ≡ barred (state_of s c) → Finds s p (moving p c) all
      finds_barred c room sized o = finds_nothing p c all room sized (steps_barred plan levels k (text_action_limit - p.count) (state_of s p.cursor) (state_of s c) o)

      -- an action, and what is found behind it
      pub finds_action : (q r : Places) (c : Cursor) → OpensAction s c levels (text_action_limit - p.count) (state_of s p.cursor)
          → length p.list ≡ text_action_limit → q.list ≡ set p.list p.count c.at → q.count ≡ p.count + 1
          → state_of s q.cursor ≡ (read_action (state_of s c)).state
          → Finds s q r (read_steps plan levels k (text_action_limit - q.count) (state_of s q.cursor)) → Finds s p r all
      unfolding actions_in
      finds_action q r c o sized put more behind rest =
          let room = text_action_limit - p.count in
          let some = o.some in
          let u = going o.text o.at in
          let one = read_action u in
          let later = read_steps plan levels k (room - 1) one.state in
          let less : text_action_limit - q.count ≡ room - 1 = omega arith in
          let state : state_of s q.cursor ≡ one.state = behind ∙ ap (λ st. (read_action st).state) o.stands in
          let same : read_steps plan levels k (text_action_limit - q.count) (state_of s q.cursor) ≡ later =
          ap (λ n. read_steps plan levels k n (state_of s q.cursor)) less ∙ ap (read_steps plan levels k (room - 1)) state in
          let found = subst (Finds s q r) same rest in
          let here : actions_at s q ≡ actions_at s p ++ (one.value ∷ []) =
          actions_put p q c.at sized (omega arith) put more ∙ ap (λ a. actions_at s p ++ (a ∷ [])) (action_placed c o.text o.at o.stands) in
          subst (Finds s p r) (sym (steps_action plan levels k room (state_of s p.cursor) u o.next)) (record {
            state = found.state;
            room = found.room;
            sized = found.sized;
            count = λ t l g. let told = found.count t l g in omega arith;
            actions = λ t l g.
                found.actions t l g ∙ ap (λ before. before ++ actions_in later.value) here ∙ append_assoc (actions_at s p) (one.value ∷ []) (actions_in later.value);
          })

      -- a sub-plan, and what is found behind it
      pub finds_plan : (q r : Places) (c : Cursor) → OpensPlan s c levels (text_action_limit - p.count) (state_of s p.cursor)
          → Finds s (moving p c) q (plan (text_action_limit - p.count) (state_of s c))
          → Finds s q r (read_steps plan levels k (text_action_limit - q.count) (state_of s q.cursor)) → Finds s p r all
      unfolding actions_in
      finds_plan q r c o one rest =
          let room = text_action_limit - p.count in
          let inner = plan room (state_of s c) in
          let left = room - length (actions_in inner.value) in
          let later = read_steps plan levels k left inner.state in
          subst (Finds s p r) (sym (steps_plan plan levels k room (state_of s p.cursor) (state_of s c) o.next))
          (state_cases inner.state
          (λ u m e.
          let counted = one.count u m e in
          let less : text_action_limit - q.count ≡ left = omega arith in
          let same : read_steps plan levels k (text_action_limit - q.count) (state_of s q.cursor) ≡ later =
          ap (λ n. read_steps plan levels k n (state_of s q.cursor)) less ∙ ap (read_steps plan levels k left) one.state in
          let found = subst (Finds s q r) same rest in
          let here : actions_at s q ≡ actions_at s p ++ actions_in inner.value =
          one.actions u m e ∙ ap (λ before. before ++ actions_in inner.value) (actions_moved p c) in
          record {
            state = found.state;
            room = found.room;
            sized = found.sized;
            count = λ t l g.
                let told = found.count t l g in
                let lengths = length-append (actions_in inner.value) (actions_in later.value) in
                omega arith;
            actions = λ t l g.
                found.actions t l g ∙ ap (λ before. before ++ actions_in later.value) here
                ∙ append_assoc (actions_at s p) (actions_in inner.value) (actions_in later.value);
          })
          (λ why m e.
          let ends : later ≡ record { value = no_step; state = failed why m } = ap (read_steps plan levels k left) e ∙ steps_failed plan levels k left why m in
          let same : read_steps plan levels k (text_action_limit - q.count) (state_of s q.cursor) ≡ later =
          ap (read_steps plan levels k (text_action_limit - q.count)) (one.state ∙ e) ∙ steps_failed plan levels k (text_action_limit - q.count) why m ∙ sym ends in
          let found = subst (Finds s q r) same rest in
          let fails : later.state ≡ failed why m = ap (λ (x : Read Steps). x.state) ends in
          record {
            state = found.state;
            room = found.room;
            sized = found.sized;
            count = λ t l g. failed_going_clash (sym fails ∙ g);
            actions = λ t l g. failed_going_clash (sym fails ∙ g);
          }))

-- of k steps the walk has come to place i: what is found of those left is what is found of all
pub record Walking (s : List ℕ) (levels k : ℕ) (p found : Places) (i : ℕ) : Type 0 where
  pub within : i ≤ k
  pub room : found.count ≤ text_action_limit
  pub sized : length found.list ≡ text_action_limit
  pub shrinks : remaining (state_of s found.cursor) ≤ remaining (state_of s p.cursor)
  pub leads : (r : Places) → Finds s found r (read_steps (read_plan levels) levels (k - i) (text_action_limit - found.count) (state_of s found.cursor))
      → Finds s p r (read_steps (read_plan levels) levels k (text_action_limit - p.count) (state_of s p.cursor))

module _ {s : List ℕ} {levels k : ℕ} {p : Places} where
  pub walking_start : p.count ≤ text_action_limit → length p.list ≡ text_action_limit → Walking s levels k p p 0
  walking_start room sized = record { within = omega arith; room = room; sized = sized; shrinks = omega arith; leads = λ r h. rw sub-zero at h }

  module _ {found : Places} {i : ℕ} (w : Walking s levels k p found i) where
    abbrev read : ℕ → Places → Read Steps
    read n q = read_steps (read_plan levels) levels n (text_action_limit - q.count) (state_of s q.cursor)

    -- the steps left, one more than those behind it
    left : i < k → k - i ≡ suc (k - (i + 1))
    left h = omega arith

    pub walking_action : (q : Places) (c : Cursor) → i < k → OpensAction s c levels (text_action_limit - found.count) (state_of s found.cursor)
        → q.list ≡ set found.list found.count c.at → q.count ≡ found.count + 1 → state_of s q.cursor ≡ (read_action (state_of s c)).state
        → Walking s levels k p q (i + 1)
    walking_action q c h o put more behind =
        let some = o.some in
        let long = w.sized in
        record {
          within = omega arith;
          room = omega arith;
          sized = ap length put ∙ length-set found.list found.count c.at ∙ w.sized;
          shrinks = omega (arith, ap remaining behind, action_shrinks (state_of s c), o.shrinks, w.shrinks);
          leads = λ r rest. w.leads r
              (subst (λ n. Finds s found r (read n found)) (sym (left h))
              (finds_action s (read_plan levels) levels (k - (i + 1)) found q r c o w.sized put more behind rest));
        }

    pub walking_plan : (q : Places) (c : Cursor) → i < k → OpensPlan s c levels (text_action_limit - found.count) (state_of s found.cursor)
        → Finds s (moving found c) q (read_plan levels (text_action_limit - found.count) (state_of s c)) → Walking s levels k p q (i + 1)
    walking_plan q c h o one = record {
      within = omega arith;
      room = one.room;
      sized = one.sized;
      shrinks = omega (arith, ap remaining one.state, plan_shrinks levels (text_action_limit - found.count) (state_of s c), o.shrinks, w.shrinks);
      leads = λ r rest. w.leads r
          (subst (λ n. Finds s found r (read n found)) (sym (left h)) (finds_plan s (read_plan levels) levels (k - (i + 1)) found q r c o one rest));
    }

    pub walking_barred : (c : Cursor) → i < k → opened levels (text_action_limit - found.count) (state_of s found.cursor) ≡ barred (state_of s c)
        → Finds s p (moving found c) (read k p)
    walking_barred c h o =
        w.leads (moving found c)
        (subst (λ n. Finds s found (moving found c) (read n found)) (sym (left h))
        (finds_barred s (read_plan levels) levels (k - (i + 1)) found c w.room w.sized o))

    pub walking_done : k ≤ i → Finds s p found (read k p)
    walking_done h =
        let none : k - i ≡ 0 = omega arith in
        w.leads found (subst (λ n. Finds s found found (read n found)) (sym none) (finds_none s (read_plan levels) levels found w.room w.sized))

-- a plan: its count, then its steps
pub finds_counted : (s : List ℕ) (levels : ℕ) (p r : Places) (counted : Reading ℕ) → 0 < levels → FieldSays s counted (read_form plan_form (state_of s p.cursor))
    → Finds s (moving p counted.cursor) r
    (read_steps (read_plan (levels - 1)) (levels - 1) counted.value (text_action_limit - p.count) (state_of s counted.cursor))
    → Finds s p r (read_plan levels (text_action_limit - p.count) (state_of s p.cursor))
finds_counted s levels p r counted some says found =
    let room = text_action_limit - p.count in
    let st = state_of s p.cursor in
    let n = levels - 1 in
    let one : levels ≡ suc n = omega arith in
    let steps = read_steps (read_plan n) n (read_form plan_form st).value room (read_form plan_form st).state in
    let same : read_steps (read_plan n) n counted.value room (state_of s counted.cursor) ≡ steps =
    ap (λ j. read_steps (read_plan n) n j room (state_of s counted.cursor)) says.value ∙ ap (read_steps (read_plan n) n (read_form plan_form st).value room) says.state in
    let told = subst (Finds s (moving p counted.cursor) r) same found in
    let whole : read_plan levels room st ≡ steps = ap (λ j. read_plan j room st) one ∙ plan_counted n room st in
    subst (Finds s p r) (sym whole) (record {
      state = told.state;
      room = told.room;
      sized = told.sized;
      count = told.count;
      actions = λ rest l g. told.actions rest l g ∙ ap (λ before. before ++ actions_in steps.value) (actions_moved s p counted.cursor);
    })

-- a whole text
pub found_whole : (s : List ℕ) (none read : Places) (end : Cursor) → none.count ≡ 0 → state_of s none.cursor ≡ going s 1
    → Finds s none read (read_plan level_limit (text_action_limit - none.count) (state_of s none.cursor))
    → state_of s end ≡ closed (state_of s read.cursor) → TextFound s (moving read end) (plan_of s)
unfolding plan_of
found_whole s none read end zero first found closes =
    let plan = read_plan level_limit text_action_limit (going s 1) in
    let same : read_plan level_limit (text_action_limit - none.count) (state_of s none.cursor) ≡ plan =
    ap (λ n. read_plan level_limit (text_action_limit - n) (state_of s none.cursor)) zero ∙ ap (read_plan level_limit text_action_limit) first in
    let told = subst (Finds s none read) same found in
    record {
      state = closes ∙ ap closed told.state;
      room = told.room;
      count = λ rest l g. let count = told.count [] l (closed_going plan.state rest l g) in omega arith;
      actions = λ rest l g.
          actions_moved s read end ∙ told.actions [] l (closed_going plan.state rest l g) ∙ ap (λ before. before ++ actions_in plan.value) (actions_none s none zero);
    }
