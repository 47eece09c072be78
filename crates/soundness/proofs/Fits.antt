-- Which of an actor's and a resource's tests decides. Assumes nothing.
use Rattle.std.proofs.Common.{◌≡◌, refl, Bool, true, false, ◌&&◌, ◌||◌, ℕ, ◌≤◌, ◌<◌, ne_eqb, le-leb, eqb, leb}
use mathlib.Core.Bool.{and-true, and-false}
use borrow.Author.Tests.{lt-leb}
use Rattle.lists.specs.Lists.{every}
use Rattle.register.specs.Limits.{human_kind, machine_kind, id_limit, path_limit, path_byte_least, path_byte_greatest, ranged, is_id}
use Rattle.register.specs.Register.{path_of}
use Rattle.register.specs.declared.Actor.{Actor}
use Rattle.register.specs.declared.Resource.{Resource}
use Rattle.soundness_rules.specs.Sound.{actor_fits, resource_fits}

module _ (test : ℕ → Bool) (a : Actor) where
  pub actor_unnumbered : is_id a.id ≡ false → actor_fits test a ≡ false
  unfolding actor_fits
  actor_unnumbered e = rw e

  module _ (numbered : is_id a.id ≡ true) where
    -- without an owner the kind decides
    pub actor_alone_human : a.owner ≡ 0 → a.kind ≡ human_kind → actor_fits test a ≡ true
    unfolding actor_fits
    actor_alone_human none same = rw (numbered, same, none)

    pub actor_alone_other : a.owner ≡ 0 → (a.kind ≡ human_kind → ⊥) → actor_fits test a ≡ eqb a.kind machine_kind
    unfolding actor_fits
    actor_alone_other none other = rw (numbered, none, ne_eqb a.kind human_kind other) (and-true (eqb a.kind machine_kind))

    -- an owner is a number in range, of a machine, and a human's
    pub actor_owner_beyond : id_limit < a.owner → actor_fits test a ≡ false
    unfolding actor_fits
    actor_owner_beyond h = rw (numbered, lt-leb a.owner id_limit h) (and-false (eqb a.kind human_kind || eqb a.kind machine_kind))

    pub actor_owned_other : (a.owner ≡ 0 → ⊥) → (a.kind ≡ machine_kind → ⊥) → actor_fits test a ≡ false
    unfolding actor_fits
    actor_owned_other owned other =
        rw (numbered, ne_eqb a.owner 0 owned, ne_eqb a.kind machine_kind other)
        (refused (eqb a.kind human_kind) (leb a.owner id_limit))
      where
        refused : (p q : Bool) → (p || false) && (q && false) ≡ false
        refused true true = refl
        refused true false = refl
        refused false q = refl

    pub actor_owned_machine : (a.owner ≡ 0 → ⊥) → a.owner ≤ id_limit → a.kind ≡ machine_kind → actor_fits test a ≡ test a.owner
    unfolding actor_fits
    actor_owned_machine owned low same = rw (numbered, same, ne_eqb a.owner 0 owned, le-leb a.owner id_limit low) (and-true (test a.owner))

-- the tests of a resource in the code's order, which asks for the path's length before the keeper
module _ (test : ℕ → Bool) (o : Resource) where
  pub resource_unnumbered : is_id o.id ≡ false → resource_fits test o ≡ false
  unfolding resource_fits
  resource_unnumbered e = rw e

  module _ (numbered : is_id o.id ≡ true) where
    pub resource_beyond_public : 1 < o.public → resource_fits test o ≡ false
    unfolding resource_fits
    resource_beyond_public h = rw (numbered, lt-leb o.public 1 h)

    module _ (flag : o.public ≤ 1) where
      pub resource_unkept : is_id o.keeper ≡ false → resource_fits test o ≡ false
      unfolding resource_fits
      resource_unkept e = rw (numbered, le-leb o.public 1 flag, e)

      module _ (kept : is_id o.keeper ≡ true) where
        pub resource_beyond_path : path_limit < o.len → resource_fits test o ≡ false
        unfolding resource_fits
        resource_beyond_path h = rw (numbered, le-leb o.public 1 flag, kept, lt-leb o.len path_limit h) (and-false (test o.keeper))

        module _ (room : o.len ≤ path_limit) where
          pub resource_kept_by_other : test o.keeper ≡ false → resource_fits test o ≡ false
          unfolding resource_fits
          resource_kept_by_other e = rw (numbered, le-leb o.public 1 flag, kept, e)

          pub resource_path : test o.keeper ≡ true → resource_fits test o ≡ every (ranged path_byte_least path_byte_greatest) (path_of o)
          unfolding resource_fits
          resource_path e =
              rw (numbered, le-leb o.public 1 flag, kept, e, le-leb o.len path_limit room)
              (and-true (every (ranged path_byte_least path_byte_greatest) (path_of o)))
