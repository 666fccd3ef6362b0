-- The call in which a byte of a text is.
use Rattle.std.specs.Prelude.{ℕ, Bool, not, ◌&&◌, ◌||◌, nat_eq, nat_lt, if◌then◌else◌, Option, Some, None, List, [], ◌∷◌, codes, length, drop, option_map}
use Rattle.std.specs.List.{find}
use Rattle.std.specs.Option.{option_or}
use Rattle.std.specs.Str.{bytes_eq}
use Rattle.tera_lexer.specs.grammar.Tokens.{Tok, Ident, Symbol}
use Rattle.tera_outline.specs.declared.calls.InCall.{InCall}
use Rattle.tera_outline.specs.declared.calls.Stretch.{Stretch}
use Rattle.tera_outline.specs.declared.completions.Inside.{Inside}
use Rattle.tera_outline.specs.declared.names.Before.{Before}
use Rattle.tera_outline.specs.declared.names.Before.TheVariants.{Other}
use Rattle.tera_outline.specs.Completions.{begins_call, first_inside, inside_after, role_of}
use Rattle.tera_outline.specs.Dotted.{dotted, end_of}
use Rattle.tera_outline.specs.Names.{after_token}
use Rattle.tera_outline.specs.Pieces.{Part}

-- where the name of the component begins, and the name of the argument that is there
pub record InCallVal : Type 0 where
  pub call : ℕ
  pub argument : Option (List ℕ)

abbrev pub in_call_view : InCall → InCallVal
in_call_view c = record { call = c.call; argument = option_map (λ n. n.now) c.argument }

-- a part of a call, between two bytes
pub record StretchVal : Type 0 where
  pub call : ℕ
  pub from : ℕ
  pub end : ℕ
  pub argument : Option (List ℕ)

abbrev pub stretch_view : Stretch → StretchVal
stretch_view s = record { call = s.call; from = s.from; end = s.end; argument = option_map (λ n. n.now) s.argument }

abbrev pub place_of : StretchVal → InCallVal
place_of s = record { call = s.call; argument = s.argument }

abbrev pub holds : ℕ → StretchVal → Bool
holds byte s = not (nat_lt byte s.from) && not (nat_lt s.end byte)

-- an argument goes on where its value is to come, and in brackets
abbrev pub goes_on : Inside → Bool
goes_on i = i.valued || not (nat_eq i.depth 0)

abbrev pub if_valued : Inside → Option (List ℕ) → Option (List ℕ)
if_valued i argument = if goes_on i then argument else None

-- .. and after its name, with which it begins, at the `=`
abbrev pub begun_by : Tok → Option (List ℕ) → Option (List ℕ)
begun_by (Ident name) argument = Some name
begun_by (Symbol op) argument = if bytes_eq op (codes "=") then argument else None
begun_by t argument = None

abbrev pub argument_at : Inside → Tok → Option (List ℕ) → Option (List ℕ)
argument_at i t argument = if goes_on i then argument else begun_by t argument

-- what is before each of these parts and in it, until the call ends
abbrev pub stretches : ℕ → ℕ → Inside → Option (List ℕ) → List Part → List StretchVal
stretches last call i argument [] = record { call = call; from = i.from; end = last; argument = if_valued i argument } ∷ []
stretches last call i argument (p ∷ ps) =
    record { call = call; from = i.from; end = p.start; argument = if_valued i argument }
    ∷ (elim (inside_after i (role_of p.token) p.end) [
      | Some next ↦
          record { call = call; from = p.start; end = p.end; argument = argument_at i p.token argument }
          ∷ stretches last call next (argument_at i p.token argument) ps
      | None ↦ []
    ])

-- those of a call whose component has a name of these parts, the first of others
abbrev pub named : ℕ → List Part → List Part → List StretchVal
named last [] ps = []
named last (n ∷ ns) ps = stretches last n.start (first_inside (end_of (n ∷ ns))) None (drop (length (n ∷ ns)) ps)

abbrev pub called : ℕ → List Part → List StretchVal
called last ps = named last (dotted ps) ps

-- that of a call that the first of these parts begins before the byte, if it begins one
abbrev pub stretch_after : ℕ → ℕ → Before → Part → List Part → Option StretchVal
stretch_after last byte before p ps =
    if nat_lt p.start byte && begins_call before p.token then find (holds byte) (called last ps) else None

-- that of the last call that has one at the byte: of calls within one another the innermost
abbrev pub stretch_in : ℕ → ℕ → Before → List Part → Option StretchVal
stretch_in last byte before [] = None
stretch_in last byte before (p ∷ ps) =
    option_or (stretch_in last byte (after_token before p.token) ps) (stretch_after last byte before p ps)

abbrev pub call_at : ℕ → ℕ → List Part → Option InCallVal
call_at last byte ps = option_map place_of (stretch_in last byte Other ps)
