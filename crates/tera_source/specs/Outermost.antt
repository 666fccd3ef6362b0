-- The outermost expressions of a template: something holds of each, in a loop or not.
use Rattle.std.specs.Prelude.{Bool, true, false, Option, Some, None}
use Rattle.tera_grammar.specs.expressions.Concrete.{Tree}
use Rattle.tera_grammar.specs.expressions.Measures.{EachRow, EachAttribute}
use Rattle.tera_grammar.specs.expressions.Companions.{EachArgs}
use Rattle.tera_grammar.specs.statements.Expressions.{LiteralMap}
use Rattle.tera_grammar.specs.statements.Components.{Default, ArrayDefault, MapDefault, Assigned, Parameters, Closed, Rest, Final, More}
use Rattle.tera_grammar.specs.statements.Heads.{Filters, NoFilters, Piped, Capture, SetBody, Section, CallBody}
use Rattle.tera_grammar.specs.statements.Grammar.{Plain, Shown, Set, Body, Done, Then, Item, Single, Block, Define, Capturing, For, If, Branches, Elif, Last, Else, NoElse, Otherwise}

module _ (P : Bool → Tree → Type 0) where
  abbrev pub EachOfPlain : Bool → Plain → Type 0
  EachOfPlain in_loop (Shown a e b) = P in_loop e
  EachOfPlain in_loop (Set global t n sign e) = P in_loop e
  EachOfPlain in_loop _ = Unit {0}

  -- the values of arguments, and of attributes
  abbrev pub EachOfFilters : Bool → Filters → Type 0
  EachOfFilters in_loop NoFilters = Unit {0}
  EachOfFilters in_loop (Piped bar f fs) = EachArgs (P in_loop) f.args × EachOfFilters in_loop fs

  abbrev pub EachOfCapture : Bool → Capture → Type 0
  EachOfCapture in_loop (SetBody global t n fs e) = EachOfFilters in_loop fs
  EachOfCapture in_loop (Section t f fs e) = EachArgs (P in_loop) f.args × EachOfFilters in_loop fs
  EachOfCapture in_loop (CallBody t n a last e m end) = EachAttribute (P in_loop) a

  -- the items of constant arrays, and the values of constant maps
  abbrev pub EachOfMap : Option LiteralMap → Type 0
  EachOfMap None = Unit {0}
  EachOfMap (Some m) = EachRow (P false) m.0.row

  abbrev pub EachOfDefault : Default → Type 0
  EachOfDefault (ArrayDefault a) = EachRow (P false) a.0.row
  EachOfDefault (MapDefault m) = EachRow (P false) m.0.row
  EachOfDefault _ = Unit {0}

  abbrev pub EachOfAssigned : Option Assigned → Type 0
  EachOfAssigned None = Unit {0}
  EachOfAssigned (Some d) = EachOfDefault d.value

  abbrev pub EachOfParameters : Parameters → Type 0
  EachOfParameters (Closed end) = Unit {0}
  EachOfParameters (Rest dots n end) = Unit {0}
  EachOfParameters (Final p end) = EachOfAssigned p.default
  EachOfParameters (More p comma ps) = EachOfAssigned p.default × EachOfParameters ps

  abbrev mutual
    pub EachOfBody : Bool → Body → Type 0
    EachOfBody in_loop Done = Unit {0}
    EachOfBody in_loop (Then i b) = EachOfItem in_loop i × EachOfBody in_loop b

    pub EachOfItem : Bool → Item → Type 0
    EachOfItem in_loop (Single p) = EachOfPlain in_loop p
    EachOfItem in_loop (Block t n b e m) = EachOfBody in_loop b
    EachOfItem in_loop (Define h b) = EachOfParameters h.parameters × EachOfMap h.metadata × EachOfBody in_loop b
    EachOfItem in_loop (Capturing c b) = EachOfCapture in_loop c × EachOfBody in_loop b
    EachOfItem in_loop (For t lp b o e) = P true lp.target × EachOfBody true b × EachOfElse in_loop o
    EachOfItem in_loop (If t c b bs e) = P in_loop c × EachOfBody in_loop b × EachOfBranches in_loop bs

    pub EachOfBranches : Bool → Branches → Type 0
    EachOfBranches in_loop (Elif t c b bs) = P in_loop c × EachOfBody in_loop b × EachOfBranches in_loop bs
    EachOfBranches in_loop (Last o) = EachOfElse in_loop o

    pub EachOfElse : Bool → Else → Type 0
    EachOfElse in_loop NoElse = Unit {0}
    EachOfElse in_loop (Otherwise t b) = EachOfBody in_loop b
