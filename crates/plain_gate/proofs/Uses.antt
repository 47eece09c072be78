-- The uses of an action, by what stands in the cells of a paper: their violations and hop counts are those of the definition. Assumes nothing.
use Rattle.std.proofs.Common.{◌≡◌, refl, sym, ap, ◌∙◌, Bool, true, false, not, ◌&&◌, cond, List, [], ◌∷◌, ◌++◌, map, append_assoc, ℕ, zero, suc, ◌+◌, ◌-◌, ◌≤◌, ◌<◌, min, arith, eqb, length, get_or, replicate, length-take, get_or-take}
use mathlib.Core.List.{map-map}
use lib.ListN.{length-map}
use Rattle.lists.specs.Lists.{any, counted}
use Rattle.lists.specs.Counts.{counted_first}
use Rattle.lists.specs.Fills.{filled_length, filled_at}
use Rattle.register.specs.Limits.{resource_limit}
use Rattle.register.specs.Register.{actors_of}
use Rattle.register.specs.declared.Register.{Register}
use Rattle.soundness_rules.specs.Sound.{is_machine, sound}
use Rattle.soundness_rules.proofs.Registers.{sound_out}
use Rattle.columns.specs.Columns.{resource_id, resources_to}
use Rattle.actions.specs.Actions.{no_use, use_limit, violation_limit, uses_of, action_fits}
use Rattle.actions.specs.declared.Usage.{Usage}
use Rattle.actions.specs.declared.Action.{Action}
use Rattle.actions.specs.declared.Violation.{Violation}
use Rattle.actions.specs.declared.Violation.TheVariants.{NotCovered, OwnerNotCovering}
use Rattle.gate_rules.specs.Gate.{listed, padded}
use Rattle.gate_rules.proofs.Laws.{action_fits_out}
use Rattle.gate_rules.proofs.Bounds.{violations_most}
use Rattle.violations.specs.Pushed.{besides, pushed_all}
use Rattle.violations.specs.PushedLaws.{pushed_all_natural, pushed_all_append}
use Rattle.coverage_table.specs.Table.{cover_table, looked_up, is_nothing, entry_hops, table_owner, tables_of, plain_use, plain_uses, plain_violations, plain_hops}
use Rattle.coverage_table.proofs.Uses.{lookup_answers, owner_lacks_lem}
use Rattle.coverage_table.proofs.Sameness.{plain_violations_same}
use Rattle.paper.specs.Paper.{Filled, Written}
use Rattle.paper.specs.Laws.{cell_looked_up}
use Rattle.paper.specs.declared.Page.{Page}
use Rattle.plain_gate.specs.Cells.{cell_for, cells_of, hops_told, cell_hops, cell_faults, faults_among, faults_in}
use Rattle.plain_gate.proofs.Owners.{owner_standing, ownerless_standing, lacks_standing, owner_other}
use Rattle.plain_gate.proofs.Looking.{tells_nothing, tells_hops}

-- what f and g make of counted numbers is the same where it is of each
map_counted : (f g : ℕ → ℕ) (n i : ℕ) → ((j : ℕ) → j < i + n → f j ≡ g j) → map f (counted i n) ≡ map g (counted i n)
map_counted f g zero i h = refl
map_counted f g (suc n) i h = rw (h i (omega arith), map_counted f g n (suc i) (λ j below. h j (omega (arith, below))))

-- what is asked only of an owner need be told only where there is one
asked_owner : (owned a b : Bool) → (owned ≡ true → a ≡ b) → owned && a ≡ owned && b
asked_owner true a b h = h refl
asked_owner false a b h = refl

-- an action in range has no more violations than there are places
pub plain_most : (r : Register) → sound r ≡ true → (a : Action) → action_fits a ≡ true → length (plain_violations r a) ≤ violation_limit
plain_most r h a fits = rw (plain_violations_same r h a) (violations_most r a fits)

-- ---- the uses of an action by cells that were read for them
module _ (faults : ℕ → Usage → List Violation) (owned : Bool) (own theirs : List ℕ) where
  -- the violations that each use has by its place in two arrays of cells
  abbrev AsTold : ℕ → List Usage → Type 0
  AsTold n us = (j : ℕ) → j < length us → faults (n + j) (get_or us j no_use) ≡ cell_faults owned (n + j) (get_or own (n + j) 0) (get_or theirs (n + j) 0)

  told_next : (n : ℕ) (u : Usage) (us : List Usage) → AsTold n (u ∷ us) → AsTold (suc n) us
  told_next n u us h j below =
      let same : n + suc j ≡ suc n + j = omega arith in
      rw same at (h (suc j) (omega (arith, below)))

  told_first : (n : ℕ) (u : Usage) (us : List Usage) → AsTold n (u ∷ us) → faults n u ≡ cell_faults owned n (get_or own n 0) (get_or theirs n 0)
  told_first n u us h =
      let same : n + 0 ≡ n = omega arith in
      rw same at (h 0 (omega arith))

module _ (r : Register) (h : sound r ≡ true) (room : length r.resources.list ≡ resource_limit) (a : Action) where
  -- the ids of the resources, and whether the actor is a machine with an owner
  abbrev reports : List ℕ
  reports = map resource_id (resources_to r.resources).list

  abbrev pub owned_standing : Bool
  owned_standing = is_machine (actors_of r.actors) a.actor && not (eqb (owner_standing r a.actor) 0)

  -- a cell has nothing where the table has
  cell_lacks : (x : ℕ) (cells : List ℕ) → Filled r a.now x r.claims.count cells → (u : Usage)
      → is_nothing (looked_up (cover_table r a.now x) u) ≡ eqb (cell_for cells reports r.resources.count u) 0
  cell_lacks x cells filled u =
      tells_nothing r r.claims.count (looked_up (cover_table r a.now x) u) (cell_for cells reports r.resources.count u)
      (cell_looked_up r h room a.now x cells filled u)

  module _ (page : Page) (written : Written r a.now a.actor (owner_standing r a.actor) page) where
    abbrev own_cell : Usage → ℕ
    own_cell u = cell_for page.own reports r.resources.count u

    abbrev their_cell : Usage → ℕ
    their_cell u = cell_for page.theirs reports r.resources.count u

    -- the owner's tables lack a use where there is an owner and its cell has nothing
    owner_cell : (u : Usage) → any (λ table. is_nothing (looked_up table u)) (map (cover_table r a.now) (table_owner r a.actor))
        ≡ owned_standing && eqb (their_cell u) 0
    owner_cell u =
        let owner = owner_standing r a.actor in
        owner_lacks_lem r h a.now a.actor u
        ∙ lacks_standing r h a.actor a.now u
        ∙ ap (λ b. owned_standing && b) (sym (lookup_answers r h a.now owner u).lacks)
        ∙ asked_owner owned_standing (is_nothing (looked_up (cover_table r a.now owner) u)) (eqb (their_cell u) 0)
        (λ owned. cell_lacks owner page.theirs (written.theirs (owner_other r h a.actor owned)) u)

    -- the violations of a use by its cells
    use_cells : (n : ℕ) (u : Usage) → plain_use (tables_of r a) n u ≡ cell_faults owned_standing n (own_cell u) (their_cell u)
    use_cells n u =
        ap (λ b. cond b (NotCovered n ∷ []) (cond (any (λ table. is_nothing (looked_up table u)) (tables_of r a).owners) (OwnerNotCovering n ∷ []) []))
        (cell_lacks a.actor page.own written.own u)
        ∙ ap (λ b. cond (eqb (own_cell u) 0) (NotCovered n ∷ []) (cond b (OwnerNotCovering n ∷ []) [])) (owner_cell u)

    -- those of uses by arrays of cells
    uses_told : (own theirs : List ℕ) (n : ℕ) (us : List Usage) → AsTold (plain_use (tables_of r a)) owned_standing own theirs n us
        → plain_uses (tables_of r a) n us ≡ faults_among own theirs owned_standing (counted n (length us))
    uses_told own theirs n [] told = refl
    uses_told own theirs n (u ∷ us) told =
        ap (λ vs. vs ++ plain_uses (tables_of r a) (suc n) us) (told_first (plain_use (tables_of r a)) owned_standing own theirs n u us told)
        ∙ ap (λ vs. cell_faults owned_standing n (get_or own n 0) (get_or theirs n 0) ++ vs)
        (uses_told own theirs (suc n) us (told_next (plain_use (tables_of r a)) owned_standing own theirs n u us told))

    module _ (long : length a.uses ≡ use_limit) (fits : action_fits a ≡ true) where
      -- the cells of the actor's uses, and of the owner's
      abbrev own : List ℕ
      own = cells_of page.own reports r.resources.count a

      abbrev theirs : List ℕ
      theirs = cells_of page.theirs reports r.resources.count a

      used : length (uses_of a) ≡ a.used
      used = omega (arith, length-take a.used a.uses, long, (action_fits_out a fits).uses_most)

      few : a.used ≤ use_limit
      few = (action_fits_out a fits).uses_most

      cells_long : (cells : List ℕ) → length (cells_of cells reports r.resources.count a) ≡ use_limit
      unfolding cells_of
      cells_long cells = filled_length use_limit (λ i. cell_for cells reports r.resources.count (get_or a.uses i no_use)) (min a.used use_limit) 0 (omega arith)

      cells_at : (cells : List ℕ) (i : ℕ) → i < a.used → get_or (cells_of cells reports r.resources.count a) i 0 ≡ cell_for cells reports r.resources.count (get_or a.uses i no_use)
      unfolding cells_of
      cells_at cells i below =
          filled_at use_limit (λ j. cell_for cells reports r.resources.count (get_or a.uses j no_use)) (min a.used use_limit) 0 i 0 (omega (arith, below, few))

      uses_each : AsTold (plain_use (tables_of r a)) owned_standing own theirs 0 (uses_of a)
      uses_each j below =
          let inside : j < a.used = omega (arith, below, used) in
          let here : 0 + j ≡ j = omega arith in
          rw (here, get_or-take a.used a.uses j no_use inside, cells_at page.own j inside, cells_at page.theirs j inside)
          (use_cells j (get_or a.uses j no_use))

      -- the violations of the uses
      pub uses_natural : plain_uses (tables_of r a) 0 (uses_of a) ≡ faults_in own theirs owned_standing a.used
      unfolding faults_in
      uses_natural =
          let top : length (uses_of a) ≡ min a.used (min use_limit (min (length own) (length theirs))) =
          omega (arith, used, few, cells_long page.own, cells_long page.theirs) in
          uses_told own theirs 0 (uses_of a) uses_each ∙ ap (λ n. faults_among own theirs owned_standing (counted 0 n)) top

      -- the hop counts
      pub hops_natural : padded (plain_hops r a) ≡ cell_hops page.hops own a.used
      unfolding plain_hops cell_hops
      hops_natural =
          let top : min a.used (min use_limit (length own)) ≡ a.used = omega (arith, few, cells_long page.own) in
          let hops : Usage → ℕ = λ u. entry_hops (looked_up (cover_table r a.now a.actor) u) in
          let told : ℕ → ℕ = λ i. hops_told page.hops (get_or own i 0) in
          let each : map hops (uses_of a) ≡ map told (counted 0 a.used) =
          ap (map hops) (sym (counted_first no_use a.uses a.used))
          ∙ map-map hops (λ j. get_or a.uses j no_use) (counted 0 (length (uses_of a)))
          ∙ ap (λ n. map (λ j. hops (get_or a.uses j no_use)) (counted 0 n)) used
          ∙ map_counted (λ j. hops (get_or a.uses j no_use)) told a.used 0
          (λ j below. let inside : j < a.used = omega (arith, below) in
          tells_hops r r.claims.count page.hops (sound_out r h).limits.claim_count written.hops
          (looked_up (cover_table r a.now a.actor) (get_or a.uses j no_use)) (own_cell (get_or a.uses j no_use))
          (cell_looked_up r h room a.now a.actor page.own written.own (get_or a.uses j no_use))
          ∙ ap (hops_told page.hops) (sym (cells_at page.own j inside))) in
          let many : length (map hops (uses_of a)) ≡ a.used = length-map (uses_of a) hops ∙ used in
          ap (λ n. map hops (uses_of a) ++ replicate (use_limit - n) 0) many
          ∙ ap (λ l. l ++ replicate (use_limit - a.used) 0) each
          ∙ ap (λ n. map told (counted 0 n) ++ replicate (use_limit - n) 0) (sym top)

      -- all violations
      violations_told : plain_violations r a ≡ besides (is_machine (actors_of r.actors) a.actor) (owner_standing r a.actor) a ++ plain_uses (tables_of r a) 0 (uses_of a)
      unfolding plain_violations
      violations_told = rw (ownerless_standing r h a.actor) (simp append_assoc)

      -- put behind those besides the uses
      pub violations_natural : pushed_all (pushed_all (listed []) (besides (is_machine (actors_of r.actors) a.actor) (owner_standing r a.actor) a)) (faults_in own theirs owned_standing a.used)
          ≡ listed (plain_violations r a)
      violations_natural =
          let first = besides (is_machine (actors_of r.actors) a.actor) (owner_standing r a.actor) a in
          ap (pushed_all (pushed_all (listed []) first)) (sym uses_natural)
          ∙ sym (pushed_all_append (listed []) first (plain_uses (tables_of r a) 0 (uses_of a)))
          ∙ ap (pushed_all (listed [])) (sym violations_told)
          ∙ pushed_all_natural [] (plain_violations r a) (omega (arith, plain_most r h a fits))
