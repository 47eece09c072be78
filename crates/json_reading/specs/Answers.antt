-- Working: What the code's answers say of the tokens from a position on. `json_read` of json_actions is what they lead to, by the contract of
-- `read_json`.
use Rattle.std.specs.Prelude.{ℕ, zero, suc, ◌+◌, ◌-◌, ◌*◌, ◌^◌, ◌≤◌, ◌<◌, ◌≡◌, List, [], ◌∷◌, ◌++◌, map, Bool, true, false, cond, ◌||◌, eqb, leb, length, take, drop, get_or, replicate, Option, Some, None}
use Rattle.lists.specs.Lists.{any, every, All, counted, splice, distinct}
use Rattle.decimals.specs.Decimals.{Parsed}
use Rattle.actions.specs.Actions.{no_use, use_limit, flag_count}
use Rattle.actions.specs.declared.Usage.{Usage}
use Rattle.json_tokens.specs.Tokens.{Token, mark, text, no_token, comma, tokens}
use Rattle.json_rules.specs.Names.{key_names, id_place, actor_place, kind_place, read_place, write_place, execute_place, flags_place, domain_place, depth_place}
use Rattle.json_rules.specs.Members.{Setting, Value, Member, Taken, taking, missed, made, named, take_text, is_exact, exact_of, is_full_set, id_length}
use Rattle.json_rules.specs.Actions.{as_letters, as_figure, as_figures, as_settings, flags_of, used_with}
use Rattle.json_rules.specs.Items.{key_count}
use Rattle.json_reading.specs.declared.marks.Separator.{Separator}
use Rattle.json_reading.specs.declared.marks.Separator.TheVariants.{More, Done}
use Rattle.json_reading.specs.declared.held.Held.{Held}
use Rattle.json_reading.specs.declared.members.Keyed.{Keyed}
use Rattle.json_reading.specs.declared.members.Draft.{Draft}

-- a text is one of our decimals and nothing else
abbrev pub ExactSays : Option ℕ → Parsed → Type 0
ExactSays (Some n) p = (is_exact p ≡ true) × (exact_of p ≡ n)
ExactSays None p = is_exact p ≡ false

-- the position of s behind what was read from `at` on
abbrev pub Behind : List ℕ → ℕ → ℕ → Type 0
Behind s at next = (at < next) × (next ≤ length s)

abbrev pub NumberSays : List ℕ → ℕ → Option (ℕ × ℕ) → Taken ℕ → Type 0
NumberSays s at (Some r) p = (p ≡ taking r.0 (tokens (drop r.1 s))) × Behind s at r.1
NumberSays s at None p = p ≡ missed

-- what follows an item: a comma, with the tokens behind it; the closing mark; or neither
pub data Separation : Type 0 where
  more : List Token → Separation
  no_more : List Token → Separation
  broken : Separation

abbrev pub separation : ℕ → List Token → Separation
separation close [] = broken
separation close (mark b ∷ ts) = cond (eqb b comma) (more ts) (cond (eqb b close) (no_more ts) broken)
separation close (text x ∷ ts) = broken
separation close (no_token ∷ ts) = broken

abbrev pub SeparatorSays : List ℕ → ℕ → Option Separator → Separation → Type 0
SeparatorSays s at (Some (More next)) p = (p ≡ more (tokens (drop next s))) × Behind s at next
SeparatorSays s at (Some (Done next)) p = (p ≡ no_more (tokens (drop next s))) × Behind s at next
SeparatorSays s at None p = p ≡ broken

-- whether some tokens begin with a mark
abbrev pub is_marked : ℕ → List Token → Bool
is_marked b [] = false
is_marked b (mark c ∷ ts) = eqb c b
is_marked b (text x ∷ ts) = false
is_marked b (no_token ∷ ts) = false

abbrev pub PassedSays : List ℕ → ℕ → ℕ → Option ℕ → List Token → Type 0
PassedSays s at b (Some next) ts = (ts ≡ mark b ∷ tokens (drop next s)) × Behind s at next
PassedSays s at b None ts = is_marked b ts ≡ false

-- a list of at most 32 numbers
abbrev pub limited : Taken (List ℕ) → Taken (List ℕ)
limited p = made (λ ns. leb (length ns) use_limit) (λ ns. ns) p

-- the numbers of a list, which stand in the array from `base` on
abbrev pub NumbersSays : List ℕ → ℕ → ℕ → List ℕ → List ℕ → Option (ℕ × ℕ) → Taken (List ℕ) → Type 0
NumbersSays s at base old new (Some r) p =
    (ns : List ℕ) × (p ≡ taking ns (tokens (drop r.1 s))) × (r.0 ≡ length ns) × (r.0 ≤ use_limit) × (new ≡ splice base ns old) × Behind s at r.1
NumbersSays s at base old new None p = p ≡ missed

abbrev pub SettingSays : List ℕ → ℕ → Option (ℕ × Bool × ℕ) → Taken Setting → Type 0
SettingSays s at (Some r) p =
    (p ≡ taking (record { flag = r.0; set = r.1 }) (tokens (drop r.2 s))) × (r.0 < flag_count) × Behind s at r.2
SettingSays s at None p = p ≡ missed

-- the flags' number, by whether each was seen and is set
unfoldable pub flags_in : ℕ → List Bool → ℕ
flags_in zero set = 0
flags_in (suc i) set = flags_in i set + cond (get_or set i false) (2 ^ i) 0

unfoldable pub flags_found : List Bool → List Bool → ℕ → Option (ℕ × ℕ)
flags_found seen set next = cond (every (λ i. get_or seen i false) (counted 0 flag_count)) (Some (flags_in flag_count set, next)) None

-- the ten flags, each once
abbrev pub full_set : Taken (List Setting) → Taken (List Setting)
full_set p = made is_full_set (λ ss. ss) p

abbrev pub SettingsSays : List ℕ → ℕ → Option (ℕ × ℕ) → Taken (List Setting) → Type 0
SettingsSays s at (Some r) p =
    (ss : List Setting) × (p ≡ taking ss (tokens (drop r.1 s))) × (r.0 ≡ flags_of ss) × Behind s at r.1
SettingsSays s at None p = p ≡ missed

-- a key by its place, and its colon
abbrev pub key_of : List Token → Taken ℕ
key_of ts = named key_names (λ k rest. taking k rest) (take_text ts)

abbrev pub NamedSays : List ℕ → ℕ → Option (ℕ × ℕ) → Taken ℕ → Type 0
NamedSays s at (Some r) p = (p ≡ taking r.0 (tokens (drop r.1 s))) × Behind s at r.1
NamedSays s at None p = p ≡ missed

-- the keys that hold a text, and those whose code answers a number
abbrev pub is_text_key : ℕ → Bool
is_text_key k = eqb k id_place || (eqb k kind_place || eqb k domain_place)

abbrev pub is_figure_key : ℕ → Bool
is_figure_key k = eqb k actor_place || (eqb k flags_place || eqb k depth_place)

-- where the numbers of a key's list begin in the array, and how many places it has
abbrev pub block_of : ℕ → ℕ
block_of k = (k - read_place) * use_limit

abbrev pub list_room : ℕ
list_room = 96

-- what a key holds, by the numbers that the code keeps of it
pub record HoldsValue (s numbers : List ℕ) (key figure from len : ℕ) (v : Value) : Type 0 where
  pub letters : key ≡ id_place → (as_letters v ≡ take len (drop from s)) × (len ≤ id_length) × (from + len ≤ length s)
  pub single : eqb key actor_place || eqb key kind_place ≡ true → as_figure v ≡ figure
  pub several : read_place ≤ key → key ≤ execute_place → (as_figures v ≡ take len (drop (block_of key) numbers)) × (len ≤ use_limit)
  pub flags : key ≡ flags_place → flags_of (as_settings v) ≡ figure

abbrev pub held_whole : ℕ → ℕ → ℕ → ℕ → Held
held_whole next figure from len = record { next = next; figure = figure; from = from; len = len }

abbrev pub HeldSays : List ℕ → ℕ → ℕ → List ℕ → Option Held → Taken Value → Type 0
HeldSays s at key numbers (Some h) p =
    (v : Value) × (p ≡ taking v (tokens (drop h.next s))) × Behind s at h.next × HoldsValue s numbers key h.figure h.from h.len v
HeldSays s at key numbers None p = p ≡ missed

-- the same whatever stands in the array: the key holds no list
abbrev pub HeldAnyway : List ℕ → ℕ → ℕ → Option Held → Taken Value → Type 0
HeldAnyway s at key h p = (numbers : List ℕ) → HeldSays s at key numbers h p

-- the other keys' numbers are as they were
abbrev pub Apart : ℕ → List ℕ → List ℕ → Type 0
Apart key old new =
    (k n : ℕ) → read_place ≤ k → k ≤ execute_place → (k ≡ key → ⊥) → n ≤ use_limit → take n (drop (block_of k) new) ≡ take n (drop (block_of k) old)

abbrev pub KeptApart : Option Held → ℕ → List ℕ → List ℕ → Type 0
KeptApart (Some h) key old new = Apart key old new
KeptApart None key old new = Unit {0}

-- a member: its key by its place, and what that holds
abbrev pub KeyedSays : List ℕ → ℕ → List ℕ → Option Keyed → Taken Member → Type 0
KeyedSays s at numbers (Some k) p =
    (v : Value) × (p ≡ taking (record { key = k.key; value = v }) (tokens (drop k.held.next s))) × (k.key < key_count) × Behind s at k.held.next
    × HoldsValue s numbers k.key k.held.figure k.held.from k.held.len v
KeyedSays s at numbers None p = p ≡ missed

abbrev pub KeyedApart : Option Keyed → List ℕ → List ℕ → Type 0
KeyedApart (Some k) old new = Apart k.key old new
KeyedApart None old new = Unit {0}

-- members are admitted where each key is there once
abbrev pub keys_of : List Member → List ℕ
keys_of ms = map (λ m. m.key) ms

abbrev pub admitted : Taken (List Member) → Bool
admitted (taking ms ts) = distinct (keys_of ms)
admitted missed = false

abbrev pub admitted_whole : Taken (List Member) → Bool
admitted_whole (taking [] ts) = false
admitted_whole (taking (m ∷ ms) ts) = distinct (keys_of (m ∷ ms))
admitted_whole missed = false

-- what the code keeps of some members, by the places of their keys
pub record KeptMembers (s numbers : List ℕ) (ms : List Member) (seen : List Bool) (figures froms lens : List ℕ) : Type 0 where
  pub marked : (k : ℕ) → k < key_count → get_or seen k false ≡ any (eqb k) (keys_of ms)
  pub held : All (λ m. HoldsValue s numbers m.key (get_or figures m.key 0) (get_or froms m.key 0) (get_or lens m.key 0) m.value) ms
  pub known : All (λ m. m.key < key_count) ms
  pub once : distinct (keys_of ms) ≡ true
  pub short : (k : ℕ) → read_place ≤ k → k ≤ execute_place → get_or lens k 0 ≤ use_limit

-- nothing was read
abbrev pub no_draft : Draft
no_draft = record {
  next = 0;
  seen = replicate key_count false;
  figures = replicate key_count 0;
  froms = replicate key_count 0;
  lens = replicate key_count 0;
}

-- what was read of some members, which are admitted; or that they are not
abbrev pub Drafted : List ℕ → List ℕ → Draft → Taken (List Member) → Type 0
Drafted s numbers d p = (ms : List Member) × (p ≡ taking ms (tokens (drop d.next s))) × KeptMembers s numbers ms d.seen d.figures d.froms d.lens

abbrev pub DraftSays : List ℕ → List ℕ → Option Draft → Taken (List Member) → Type 0
DraftSays s numbers (Some d) p = Drafted s numbers d p
DraftSays s numbers None p = admitted p ≡ false

-- the same of an object with nothing behind it, which has a member
abbrev pub WholeSays : List ℕ → List ℕ → Option Draft → Taken (List Member) → Type 0
WholeSays s numbers (Some d) p = (admitted_whole p ≡ true) × Drafted s numbers d p
WholeSays s numbers None p = admitted_whole p ≡ false

-- the first seven keys were seen
abbrev pub draft_full : List Bool → Bool
draft_full seen = every (λ k. get_or seen k false) (counted 0 domain_place)

-- the uses of the three lists, with zeros behind them
abbrev pub uses_taken : List ℕ → ℕ → ℕ → ℕ → List Usage
uses_taken numbers reads writes executes =
    used_with 0 (take reads (drop (block_of read_place) numbers))
    ++ (used_with 1 (take writes (drop (block_of write_place) numbers)) ++ used_with 2 (take executes (drop (block_of execute_place) numbers)))

unfoldable pub uses_from : List ℕ → ℕ → ℕ → ℕ → List Usage
uses_from numbers reads writes executes =
    uses_taken numbers reads writes executes ++ replicate (use_limit - length (uses_taken numbers reads writes executes)) no_use
