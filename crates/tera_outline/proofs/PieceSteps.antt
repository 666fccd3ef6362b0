-- What a step over the first of the pieces that are left adds to what was found in those before it.
use Rattle.std.proofs.Common.{◌≡◌, ◌≤◌, ◌-◌, ◌++◌, ◌∷◌, ℕ, Bool, Option, Some, None, List, length, drop, get_or, map, take, refl, sym, ap, ◌∙◌, arith, append_assoc}
use Rattle.std.specs.Prelude.{if◌then◌else◌, slice_range, option_map}
use Rattle.std.specs.List.{find}
use Rattle.std.specs.Option.{option_to_list}
use Rattle.std.proofs.lemmas.List.{drop_more, take_rest}
use Rattle.tera_lexer.specs.code.Seen.{seen}
use Rattle.tera_outline.specs.declared.completions.Slot.{Slot}
use Rattle.tera_outline.specs.declared.names.Before.{Before}
use Rattle.tera_outline.specs.declared.names.Found.{Found}
use Rattle.tera_outline.specs.declared.pieces.Piece.{Piece}
use Rattle.tera_outline.specs.declared.semantic_tokens.Context.{Context}
use Rattle.tera_outline.specs.declared.semantic_tokens.SemanticKind.{SemanticKind}
use Rattle.tera_outline.specs.declared.semantic_tokens.SemanticToken.{SemanticToken}
use Rattle.tera_outline.specs.Pieces.{part_of}
use Rattle.tera_outline.specs.Completions.{holds, called, begins_call, either, argument_in}
use Rattle.tera_outline.specs.Names.{Named, found_view, name_after, after_token, names_in}
use Rattle.tera_outline.specs.SemanticTokens.{kind_of, kinded, following, tokens_in}

-- those that are left are the first and those after it
pub first_split : (xs : List Piece) (x : Piece) → x ≡ get_or xs 0 x → 1 ≤ length xs → xs ≡ x ∷ take (length xs - 1) (drop 1 xs)
first_split xs x is some = drop_more xs 0 x (omega (arith, some)) ∙ rw (← is, take_rest xs 1) refl

pub tokens_step : (c next : Context) (text bytes : List ℕ) (x : Piece) (xs : List Piece) (kind : Option SemanticKind) (before after all : List SemanticToken) → x ≡ get_or xs 0 x → 1 ≤ length xs
    → bytes ≡ slice_range text x.start x.end → kind ≡ kind_of c.lead (seen x.token) bytes (map part_of (take (length xs - 1) (drop 1 xs)))
    → next ≡ following c (seen x.token) (map part_of (take (length xs - 1) (drop 1 xs))) → after ≡ before ++ kinded x.start bytes kind
    → before ++ tokens_in c text (map part_of xs) ≡ all → after ++ tokens_in next text (map part_of (take (length xs - 1) (drop 1 xs))) ≡ all
tokens_step c next text bytes x xs kind before after all is some read reported follows adds found =
    let ps = map part_of (take (length xs - 1) (drop 1 xs)) in
    let whole : before ++ tokens_in c text (part_of x ∷ ps) ≡ all = ap (λ ys. before ++ tokens_in c text (map part_of ys)) (sym (first_split xs x is some)) ∙ found in
    rw (adds, follows, append_assoc before (kinded x.start bytes kind) (tokens_in (following c (seen x.token) ps) text ps), reported, read) whole

pub names_step : (b next : Before) (x : Piece) (xs : List Piece) (named : Option Found) (before after : List Named) (all : List Named) → x ≡ get_or xs 0 x → 1 ≤ length xs
    → option_map found_view named ≡ name_after b (seen x.token) (map part_of (take (length xs - 1) (drop 1 xs)))
    → next ≡ after_token b (seen x.token) → after ≡ before ++ option_to_list (option_map found_view named)
    → before ++ names_in b (map part_of xs) ≡ all → after ++ names_in next (map part_of (take (length xs - 1) (drop 1 xs))) ≡ all
names_step b next x xs named before after all is some reported follows adds found =
    let ps = map part_of (take (length xs - 1) (drop 1 xs)) in
    let whole : before ++ names_in b (part_of x ∷ ps) ≡ all = ap (λ ys. before ++ names_in b (map part_of ys)) (sym (first_split xs x is some)) ∙ found in
    rw (adds, follows, append_assoc before (option_to_list (option_map found_view named)) (names_in (after_token b (seen x.token)) ps), reported) whole

-- .. of the call that the first may begin
argument_split : (last byte : ℕ) (b : Before) (x : Piece) (xs : List Piece) (begun : Bool) (here : Option Slot) → x ≡ get_or xs 0 x → 1 ≤ length xs → begun ≡ begins_call b (seen x.token)
    → (if begun then find (holds byte) (called last (map part_of (take (length xs - 1) (drop 1 xs)))) else None) ≡ here
    → argument_in last byte b (map part_of xs) ≡ either here (argument_in last byte (after_token b (seen x.token)) (map part_of (take (length xs - 1) (drop 1 xs))))
argument_split last byte b x xs begun here is some reported decides =
    let ps = map part_of (take (length xs - 1) (drop 1 xs)) in
    ap (λ ys. argument_in last byte b (map part_of ys)) (first_split xs x is some)
    ∙ (ap (λ t. either (if t then find (holds byte) (called last ps) else None) (argument_in last byte (after_token b (seen x.token)) ps)) (sym reported)
    ∙ ap (λ o. either o (argument_in last byte (after_token b (seen x.token)) ps)) decides)

pub argument_found : (last byte : ℕ) (b : Before) (x : Piece) (xs : List Piece) (begun : Bool) (s : Slot) (all : Option Slot) → x ≡ get_or xs 0 x → 1 ≤ length xs → begun ≡ begins_call b (seen x.token)
    → (if begun then find (holds byte) (called last (map part_of (take (length xs - 1) (drop 1 xs)))) else None) ≡ Some s
    → argument_in last byte b (map part_of xs) ≡ all → Some s ≡ all
argument_found last byte b x xs begun s all is some reported decides found = sym (argument_split last byte b x xs begun (Some s) is some reported decides) ∙ found

pub argument_passed : (last byte : ℕ) (b next : Before) (x : Piece) (xs : List Piece) (begun : Bool) (all : Option Slot) → x ≡ get_or xs 0 x → 1 ≤ length xs → begun ≡ begins_call b (seen x.token)
    → (if begun then find (holds byte) (called last (map part_of (take (length xs - 1) (drop 1 xs)))) else None) ≡ None → next ≡ after_token b (seen x.token)
    → argument_in last byte b (map part_of xs) ≡ all → argument_in last byte next (map part_of (take (length xs - 1) (drop 1 xs))) ≡ all
argument_passed last byte b next x xs begun all is some reported decides follows found =
    ap (λ d. argument_in last byte d (map part_of (take (length xs - 1) (drop 1 xs)))) follows ∙ (sym (argument_split last byte b x xs begun None is some reported decides) ∙ found)
