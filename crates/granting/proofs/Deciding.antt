-- The outcome of each part of a grant's tests: which of them decides, by what was found of those before it. Assumes nothing.
use Rattle.std.proofs.Common.{Err, Ok, ◌≡◌, sym, ap, ◌∙◌, Bool, true, false, ◌&&◌, cond, List, [], ◌∷◌, ◌++◌, ℕ, eqb, leb, ltb}
use Rattle.lists.specs.Tests.{cases}
use Rattle.lists.specs.Lists.{any, every}
use Rattle.rights.specs.Rights.{delegating, has_right, has_rights, bars_machine}
use Rattle.register.specs.Limits.{claim_limit, moment_end}
use Rattle.register.specs.Chain.{above, circling, current}
use Rattle.register.specs.declared.Claim.{Claim}
use Rattle.register.specs.declared.Register.{Register}
use Rattle.soundness_rules.specs.Sound.{World, sound, claim_fits, names_stand, root_kept, fewer_left}
use Rattle.refusals.specs.Refusals.{Test, outcome_of}
use Rattle.change_rules.specs.Changes.{world_in, standing, parent_tests, grant_tests}
use Rattle.refusals.proofs.Laws.{outcome_nil, outcome_pass, outcome_fail}
use Rattle.refusals.specs.declared.Refusal.TheVariants.{Unsound, Range, Absent, Stands, Full, NotKeeper, Ownerless, NotByMachine, NoParent, NotHeld, NotLive, NoDelegate, RightLacking, WeightAbove, TooManyHops, Circle}
use Rattle.granting.specs.Drawn.{told_tests, drawn_tests, chain_tests, first_tests, world_tests_lem, parent_tests_lem}

-- tests 3 to 8
module _ (w : World) (stands : Bool) (n : ℕ) (c : Claim) where
  pub unknown : names_stand w c ≡ false → outcome_of (told_tests w stands n c) ≡ Err Absent
  unfolding told_tests outcome_of
  unknown e = rw e

  module _ (names : names_stand w c ≡ true) where
    pub id_stands : stands ≡ true → outcome_of (told_tests w stands n c) ≡ Err Stands
    unfolding told_tests outcome_of
    id_stands e = rw (names, e)

    module _ (unused : stands ≡ false) where
      pub full : ltb n claim_limit ≡ false → outcome_of (told_tests w stands n c) ≡ Err Full
      unfolding told_tests outcome_of
      full e = rw (names, unused, e)

      module _ (room : ltb n claim_limit ≡ true) where
        pub not_keeper : root_kept w c ≡ false → outcome_of (told_tests w stands n c) ≡ Err NotKeeper
        unfolding told_tests outcome_of
        not_keeper e = rw (names, unused, room, e)

        module _ (kept : root_kept w c ≡ true) where
          -- who is no machine is not asked further
          pub no_machine : w.machine c.grantor ≡ false → outcome_of (told_tests w stands n c) ≡ Ok tt
          unfolding told_tests outcome_of
          no_machine e = rw (names, unused, room, kept, e)

          module _ (machine : w.machine c.grantor ≡ true) where
            pub ownerless : w.ownerless c.grantor ≡ true → outcome_of (told_tests w stands n c) ≡ Err Ownerless
            unfolding told_tests outcome_of
            ownerless e = rw (names, unused, room, kept, machine, e)

            module _ (owned : w.ownerless c.grantor ≡ false) where
              pub machine_barred : bars_machine c.rights ≡ true → outcome_of (told_tests w stands n c) ≡ Err NotByMachine
              unfolding told_tests outcome_of
              machine_barred e = rw (names, unused, room, kept, machine, owned, e)

              pub machine_grants_lem : bars_machine c.rights ≡ false → outcome_of (told_tests w stands n c) ≡ Ok tt
              unfolding told_tests outcome_of
              machine_grants_lem e = rw (names, unused, room, kept, machine, owned, e)

-- tests 10 to 14
module _ (lives : Bool) (p c : Claim) where
  pub not_held : eqb p.holder c.grantor ≡ false → outcome_of (drawn_tests lives p c) ≡ Err NotHeld
  unfolding drawn_tests outcome_of
  not_held e = rw e

  module _ (held : eqb p.holder c.grantor ≡ true) where
    pub elsewhere : eqb p.resource c.resource ≡ false → outcome_of (drawn_tests lives p c) ≡ Err NotHeld
    unfolding drawn_tests outcome_of
    elsewhere e = rw (held, e)

    module _ (same : eqb p.resource c.resource ≡ true) where
      pub dead : lives ≡ false → outcome_of (drawn_tests lives p c) ≡ Err NotLive
      unfolding drawn_tests outcome_of
      dead e = rw (held, same, e)

      module _ (living : lives ≡ true) where
        pub no_delegate : has_right p.rights delegating ≡ false → outcome_of (drawn_tests lives p c) ≡ Err NoDelegate
        unfolding drawn_tests outcome_of
        no_delegate e = rw (held, same, living, e)

        module _ (delegates : has_right p.rights delegating ≡ true) where
          pub right_lacking : has_rights p.rights c.rights ≡ false → outcome_of (drawn_tests lives p c) ≡ Err RightLacking
          unfolding drawn_tests outcome_of
          right_lacking e = rw (held, same, living, delegates, e)

          module _ (contains : has_rights p.rights c.rights ≡ true) where
            pub weight_above : leb c.weight p.weight ≡ false → outcome_of (drawn_tests lives p c) ≡ Err WeightAbove
            unfolding drawn_tests outcome_of
            weight_above e = rw (held, same, living, delegates, contains, e)

            pub drawn_well : leb c.weight p.weight ≡ true → outcome_of (drawn_tests lives p c) ≡ Ok tt
            unfolding drawn_tests outcome_of
            drawn_well e = rw (held, same, living, delegates, contains, e)

-- tests 15 and 16
module _ {A : Type 0} (grantor holder : A → ℕ) (fewer : Bool) (l : List A) (h : ℕ) where
  pub too_many_hops : fewer ≡ false → outcome_of (chain_tests grantor holder fewer l h) ≡ Err TooManyHops
  unfolding chain_tests outcome_of
  too_many_hops e = rw e

  module _ (within : fewer ≡ true) where
    pub circle : circling grantor holder l h ≡ true → outcome_of (chain_tests grantor holder fewer l h) ≡ Err Circle
    unfolding chain_tests outcome_of
    circle e = rw (within, e)

    pub no_circle : circling grantor holder l h ≡ false → outcome_of (chain_tests grantor holder fewer l h) ≡ Ok tt
    unfolding chain_tests outcome_of
    no_circle e = rw (within, e)

-- tests 9 to 16, over the chain above
module _ (version moment : ℕ) (l : List Claim) (c : Claim) where
  pub parent_absent : l ≡ [] → outcome_of (parent_tests version moment l c) ≡ Err NoParent
  unfolding parent_tests outcome_of
  parent_absent e = rw e

  -- the parent p stands: its tests, and then those of the chain
  pub parent_present : {p : Claim} {higher : List Claim} → l ≡ p ∷ higher
      → outcome_of (parent_tests version moment l c) ≡ outcome_of (drawn_tests (every (current moment) l) p c
      ++ chain_tests (λ d. d.grantor) (λ d. d.holder) (fewer_left version p higher c) l c.holder)
  parent_present {p} {higher} stands = rw stands (ap outcome_of (parent_tests_lem version moment p higher c))

-- tests 1 and 2
module _ (version : ℕ) (c : Claim) (moment : ℕ) {whole : Bool} where
  pub unsound : whole ≡ false → outcome_of (first_tests whole version c moment) ≡ Err Unsound
  unsound f = outcome_fail _ _ f

  module _ (judged : whole ≡ true) where
    pub claim_unfit : claim_fits version c ≡ false → outcome_of (first_tests whole version c moment) ≡ Err Range
    claim_unfit f = outcome_pass _ _ judged ∙ outcome_fail _ _ (ap (λ b. b && ltb moment moment_end) f)

    module _ (fit : claim_fits version c ≡ true) where
      pub moment_past : ltb moment moment_end ≡ false → outcome_of (first_tests whole version c moment) ≡ Err Range
      moment_past f = outcome_pass _ _ judged ∙ outcome_fail _ _ (ap (λ b. b && ltb moment moment_end) fit ∙ f)

      pub in_range : ltb moment moment_end ≡ true → outcome_of (first_tests whole version c moment) ≡ Ok tt
      in_range t = outcome_pass _ _ judged ∙ outcome_pass _ _ (ap (λ b. b && ltb moment moment_end) fit ∙ t) ∙ outcome_nil

-- tests 1 to 16, told part by part: what comes behind the first counts only in a sound register
pub grant_asked : (r : Register) (c : Claim) (moment : ℕ) {whole stands : Bool} {parent : List Test} → whole ≡ sound r
    → stands ≡ any (λ d. eqb c.id d.id) (standing r)
    → (sound r ≡ true → parent ≡ cond (eqb c.parent 0) [] (parent_tests r.version moment (above (standing r) c) c))
    → outcome_of (first_tests whole r.version c moment ++ (told_tests (world_in r) stands r.claims.count c ++ parent)) ≡ outcome_of (grant_tests r c moment)
unfolding grant_tests
grant_asked r c moment wholly stood drawn =
    cases (sound r)
    (λ t. rw (wholly, stood, drawn t, world_tests_lem (world_in r) (standing r) r.claims.count c))
    (λ f. outcome_fail _ _ (wholly ∙ f) ∙ sym (outcome_fail _ _ f))
