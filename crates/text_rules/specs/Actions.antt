-- Believed: The text of an action, and how a text is read as one, in 01's words.
use Rattle.std.specs.Prelude.{ℕ, ◌-◌, ◌^◌, ◌≡◌, List, [], ◌∷◌, ◌++◌, length, get_or, replicate, Err, Ok}
use Rattle.register.specs.Limits.{id_limit, moment_end}
use Rattle.rights.specs.Rights.{right_count}
use Rattle.actions.specs.Actions.{no_use, no_action, use_limit, govern_limit, flag_count, uses_of, governs_of}
use Rattle.actions.specs.declared.Usage.{Usage}
use Rattle.actions.specs.declared.Action.{Action}
use Rattle.lines.specs.Reading.{State, going, failed, Read, LineForm, number, read_form, closed}
use Rattle.text_rules.specs.Keys.{now_key, actor_key, flags_key, uses_key, use_key, right_key, governs_key, govern_key}
use Rattle.text_rules.specs.Records.{values, passed, lines_text, section, section_text}
use Rattle.text_rules.specs.declared.ActionRead.{ActionRead}

-- `now`, `actor`, `flags`
abbrev pub head_forms : List LineForm
head_forms =
    number now_key 0 (moment_end - 1)
    ∷ number actor_key 0 id_limit
    ∷ number flags_key 0 (2 ^ flag_count - 1)
    ∷ []

abbrev pub head_numbers : Action → List ℕ
head_numbers a = a.now ∷ a.actor ∷ a.flags ∷ []

-- per use `use` and `right`
abbrev pub use_forms : List LineForm
use_forms = number use_key 0 id_limit ∷ number right_key 0 (right_count - 1) ∷ []

abbrev pub use_numbers : Usage → List ℕ
use_numbers u = u.resource ∷ u.right ∷ []

abbrev pub use_from : List ℕ → Usage
use_from ns = record { resource = get_or ns 0 0; right = get_or ns 1 0 }

abbrev pub read_use : State → Read Usage
read_use st = record { value = use_from (values use_forms st); state = passed use_forms st }

abbrev pub use_text : Usage → List ℕ
use_text u = lines_text use_forms (use_numbers u)

-- per governed entry `govern`
abbrev pub govern_form : LineForm
govern_form = number govern_key 0 id_limit

abbrev pub read_govern : State → Read ℕ
read_govern st = read_form govern_form st

abbrev pub govern_text : ℕ → List ℕ
govern_text g = lines_text (govern_form ∷ []) (g ∷ [])

-- an action as a reading holds it: zeros behind its lists
abbrev pub action_from : List ℕ → List Usage → List ℕ → Action
action_from head uses governs = record {
  actor = get_or head 1 0;
  flags = get_or head 2 0;
  now = get_or head 0 0;
  uses = uses ++ replicate (use_limit - length uses) no_use;
  used = length uses;
  governs = governs ++ replicate (govern_limit - length governs) 0;
  governed = length governs;
}

-- The arrays of an action have as many places as the limits say. Every action of the program has this by its type.
pub record ShapedAction (a : Action) : Type 0 where
  pub uses : length a.uses ≡ use_limit
  pub governs : length a.governs ≡ govern_limit

unfoldable pub read_uses : State → Read (List Usage)
read_uses st = section uses_key use_limit read_use st

unfoldable pub read_governs : State → Read (List ℕ)
read_governs st = section governs_key govern_limit read_govern st

-- the lines of an action, from `now` to the last `govern`, as far as the first failing one
unfoldable pub read_action : State → Read Action
read_action st =
    let uses = read_uses (passed head_forms st) in
    let governs = read_governs uses.state in
    record { value = action_from (values head_forms st) uses.value governs.value; state = governs.state }

-- the action of a text: nothing follows the governed entries
unfoldable pub action_of : List ℕ → Read Action
action_of t = let read = read_action (going t 1) in record { value = read.value; state = closed read.state }

-- the text of an action: entries past a count are not in it
unfoldable pub action_text : Action → List ℕ
action_text a =
    lines_text head_forms (head_numbers a)
    ++ (section_text uses_key use_limit use_text (uses_of a) ++ section_text governs_key govern_limit govern_text (governs_of a))

-- a refused reading gives the action of all zeros
abbrev pub action_ending : Action → State → ActionRead
action_ending a (going t l) = record { action = a; outcome = Ok tt; line = 0 }
action_ending a (failed why l) = record { action = no_action; outcome = Err why; line = l }

-- the reading of a text as an action
unfoldable pub action_read : List ℕ → ActionRead
action_read t = let read = action_of t in action_ending read.value read.state
