-- Believed: What a key may hold.
use Rattle.std.specs.Prelude.{ℕ, ◌≡◌, Bool, true, ◌&&◌, ◌||◌, length, eqb, leb, ltb}
use Rattle.lists.specs.Lists.{every, same}
use Rattle.register.specs.Limits.{id_limit}
use Rattle.rights.specs.Rights.{is_right}
use Rattle.actions.specs.Actions.{use_limit, flag_count}
use Rattle.json_rules.specs.Names.{default_domain, id_place, actor_place, kind_place, read_place, write_place, execute_place, flags_place, domain_place, depth_place}
use Rattle.json_rules.specs.Members.{Value, letters, figure, figures, settings, Member, is_id_text, is_full_set}

-- a text is an id, or the domain `default`; a number is the actor's, a kind or the depth 0; up to 32 numbers are resources; the ten flags
unfoldable pub value_fits : ℕ → Value → Bool
value_fits k (letters x) = (eqb k id_place && is_id_text x) || (eqb k domain_place && same default_domain x)
value_fits k (figure n) = (eqb k actor_place && leb n id_limit) || ((eqb k kind_place && is_right n) || (eqb k depth_place && eqb n 0))
value_fits k (figures ns) =
    (eqb k read_place || (eqb k write_place || eqb k execute_place)) && (leb (length ns) use_limit && every (λ n. leb n id_limit) ns)
value_fits k (settings ss) = eqb k flags_place && (is_full_set ss && every (λ s. ltb s.flag flag_count) ss)

-- a member with a value that its key may hold
abbrev pub MemberFits : Member → Type 0
MemberFits m = value_fits m.key m.value ≡ true
