-- The definitions of lines at a position of a text: what one byte more, or one answer more, makes of them. Assumes nothing.
use Rattle.std.proofs.Common.{ℕ, ◌+◌, ◌-◌, ◌≤◌, ◌<◌, nat_eq, Some, None, ◌&&◌, ◌≡◌, refl, ap, ◌∙◌, List, [], ◌∷◌, ◌++◌, Bool, true, false, cond, arith, eqb, length, get_or, drop, replicate, drop_of_length-le, length-append, length-drop, drop-drop, eq-eqb, ne_eqb, le-leb, lt-ltb, le-ltb}
use Rattle.std.specs.List.{starts_with}
use borrow.Author.Tests.{lt-leb}
use Rattle.register.specs.Limits.{path_limit, path_byte_least, path_byte_greatest}
use Rattle.decimals.specs.Decimals.{Parsed, got, large, bad, parse}
use Rattle.decimals.specs.Walk.{drop_byte}
use Rattle.lines.specs.Lines.{line_feed, Line, line, beyond, fault, begins, ended, parse_limited, at_least, decimal_line, parse_word, scope_key, path_on, parse_scope}
use Rattle.lines.specs.Answers.{PathSays}
use Rattle.lines.proofs.Laws.{begins_split, limited_read, decimal_line_length}

-- a text begins with a key where as many bytes at its front are the key's
pub begins_starts : (key t : List ℕ) → starts_with nat_eq t key ≡ begins key t
unfolding begins
begins_starts [] t = refl
begins_starts (k ∷ key) [] = refl
begins_starts (k ∷ key) (b ∷ t) = rw (begins_starts key t) (go (eqb k b) (begins key t))
  where
    go : (x y : Bool) → (x && y) ≡ cond x y false
    go true y = refl
    go false y = refl

-- a key that stands at a position is within the text
pub begins_within : (key s : List ℕ) (at : ℕ) → at ≤ length s → begins key (drop at s) ≡ true → at + length key ≤ length s
begins_within key s at h e =
    let whole : length (drop at s) ≡ length key + length (drop (length key) (drop at s)) =
    ap length (begins_split key (drop at s) e) ∙ length-append key (drop (length key) (drop at s)) in
    omega (arith, whole, length-drop at s)

-- what the key's test and the number's reading make of a line
module _ (key s : List ℕ) (greatest at : ℕ) where
  pub limited_none : begins key (drop at s) ≡ false → parse_limited key greatest (drop at s) ≡ fault
  unfolding parse_limited
  limited_none e = rw e

  pub limited_on : (p : Parsed) → begins key (drop at s) ≡ true → parse greatest (drop (at + length key) s) ≡ p →
      parse_limited key greatest (drop at s) ≡ ended p
  unfolding parse_limited
  limited_on p e f = rw (e, drop-drop, f)

  -- a line ends behind the position that it begins at
  pub limited_behind : (n next : ℕ) → next ≤ length s → parse_limited key greatest (drop at s) ≡ line n (drop next s) → at < next
  limited_behind n next h e =
      let text = (limited_read key greatest n (drop next s) (drop at s) e).0 in
      let whole : length (drop at s) ≡ length (decimal_line key n) + length (drop next s) = ap length text ∙ length-append (decimal_line key n) (drop next s) in
      omega (arith, whole, length-drop at s, length-drop next s, decimal_line_length key n)

-- what the byte behind a number makes of the line
module _ (s : List ℕ) (next : ℕ) where
  pub ended_got : (n : ℕ) → next < length s → get_or s next 0 ≡ line_feed → ended (got n (drop next s)) ≡ line n (drop (next + 1) s)
  unfolding ended
  ended_got n h e = rw (drop_byte s next h, eq-eqb _ _ e)

  pub ended_large : next < length s → get_or s next 0 ≡ line_feed → ended (large (drop next s)) ≡ beyond
  unfolding ended
  ended_large h e = rw (drop_byte s next h, eq-eqb _ _ e)

  pub ended_got_other : (n : ℕ) → next < length s → (get_or s next 0 ≡ line_feed → ⊥) → ended (got n (drop next s)) ≡ fault
  unfolding ended
  ended_got_other n h e = rw (drop_byte s next h, ne_eqb _ _ e)

  pub ended_large_other : next < length s → (get_or s next 0 ≡ line_feed → ⊥) → ended (large (drop next s)) ≡ fault
  unfolding ended
  ended_large_other h e = rw (drop_byte s next h, ne_eqb _ _ e)

  pub ended_got_past : (n : ℕ) → length s ≤ next → ended (got n (drop next s)) ≡ fault
  unfolding ended
  ended_got_past n h = rw (drop_of_length-le s h)

  pub ended_large_past : length s ≤ next → ended (large (drop next s)) ≡ fault
  unfolding ended
  ended_large_past h = rw (drop_of_length-le s h)

pub ended_bad : ended bad ≡ fault
unfolding ended
ended_bad = refl

-- what the lower end makes of a line
pub at_least_within : (least n : ℕ) (t : List ℕ) (p : Line ℕ) → p ≡ line n t → least ≤ n → at_least least p ≡ line n t
unfolding at_least
at_least_within least n t p e h = rw (e, le-leb least n h)

pub at_least_below : (least n : ℕ) (t : List ℕ) (p : Line ℕ) → p ≡ line n t → n < least → at_least least p ≡ fault
unfolding at_least
at_least_below least n t p e h = rw (e, lt-leb least n h)

pub at_least_over : (least : ℕ) (p : Line ℕ) → p ≡ beyond → at_least least p ≡ beyond
unfolding at_least
at_least_over least p e = rw e

pub at_least_fault : (least : ℕ) (p : Line ℕ) → p ≡ fault → at_least least p ≡ fault
unfolding at_least
at_least_fault least p e = rw e

-- what the keys' tests make of a line of two words
module _ (first : List ℕ) (one : ℕ) (second : List ℕ) (other : ℕ) (s : List ℕ) (at : ℕ) where
  pub word_first : begins first (drop at s) ≡ true → parse_word first one second other (drop at s) ≡ line one (drop (at + length first) s)
  unfolding parse_word
  word_first e = rw (e, drop-drop)

  pub word_second : begins first (drop at s) ≡ false → begins second (drop at s) ≡ true →
      parse_word first one second other (drop at s) ≡ line other (drop (at + length second) s)
  unfolding parse_word
  word_second e f = rw (e, f, drop-drop)

  pub word_none : begins first (drop at s) ≡ false → begins second (drop at s) ≡ false → parse_word first one second other (drop at s) ≡ fault
  unfolding parse_word
  word_none e f = rw (e, f)

-- what the key's test makes of a path's line
module _ (s : List ℕ) (at : ℕ) where
  pub scope_none : begins scope_key (drop at s) ≡ false → parse_scope (drop at s) ≡ fault
  unfolding parse_scope
  scope_none e = rw e

  pub scope_on : begins scope_key (drop at s) ≡ true → parse_scope (drop at s) ≡ path_on [] (drop (at + 6) s)
  unfolding parse_scope
  scope_on e = rw (e, drop-drop)

-- what the byte at a position makes of a path
module _ (path s : List ℕ) (i : ℕ) where
  pub path_past : length s ≤ i → path_on path (drop i s) ≡ fault
  unfolding path_on
  path_past h = rw (drop_of_length-le s h)

  module _ (h : i < length s) where
    pub path_feed : get_or s i 0 ≡ line_feed → path_on path (drop i s) ≡ line path (drop (i + 1) s)
    unfolding path_on
    path_feed e = rw (drop_byte s i h, eq-eqb _ _ e)

    pub path_low : (get_or s i 0 ≡ line_feed → ⊥) → get_or s i 0 < path_byte_least → path_on path (drop i s) ≡ fault
    unfolding path_on
    path_low e f = rw (drop_byte s i h, ne_eqb _ _ e, lt-ltb _ _ f)

    pub path_high : (get_or s i 0 ≡ line_feed → ⊥) → path_byte_least ≤ get_or s i 0 → path_byte_greatest < get_or s i 0 → path_on path (drop i s) ≡ fault
    unfolding path_on
    path_high e f g = rw (drop_byte s i h, ne_eqb _ _ e, le-ltb _ _ f, lt-ltb _ _ g)

    pub path_full : (get_or s i 0 ≡ line_feed → ⊥) → path_byte_least ≤ get_or s i 0 → get_or s i 0 ≤ path_byte_greatest → path_limit ≤ length path → path_on path (drop i s) ≡ fault
    unfolding path_on
    path_full e f g k = rw (drop_byte s i h, ne_eqb _ _ e, le-ltb _ _ f, le-ltb _ _ g, le-ltb _ _ k)

    pub path_next : (get_or s i 0 ≡ line_feed → ⊥) → path_byte_least ≤ get_or s i 0 → get_or s i 0 ≤ path_byte_greatest → length path < path_limit →
        path_on path (drop i s) ≡ path_on (path ++ (get_or s i 0 ∷ [])) (drop (i + 1) s)
    unfolding path_on
    path_next e f g k = rw (drop_byte s i h, ne_eqb _ _ e, le-ltb _ _ f, le-ltb _ _ g, lt-ltb _ _ k)

-- the answers of a path's reading
pub says_no_path : (s : List ℕ) (at : ℕ) (p : Line (List ℕ)) → p ≡ fault → PathSays s at None p
unfolding PathSays
says_no_path s at p e = rw e tt

pub says_path : (s path held : List ℕ) (at n next : ℕ) (p : Line (List ℕ)) → p ≡ line path (drop next s) → length path ≡ n →
    held ≡ path ++ replicate (path_limit - n) 0 → next ≤ length s → at < next → PathSays s at (Some (record { path = held; len = n; next = next })) p
unfolding PathSays
says_path s path held at n next p e len b h k = rw (e, b, ← len) (refl, refl, refl, h, k)
