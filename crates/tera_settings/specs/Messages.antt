-- What is said of a fault.
use Rattle.std.specs.Prelude.{◌≡◌, ℕ, List, ◌++◌, Bool, true, false, Option, None, Some, bytes_eq, codes, if◌then◌else◌, string_bytes}
use Rattle.std.specs.Option.{option_map}
use Rattle.tera_settings.specs.Meaning.{keys_of, known_names, top_names}
use Rattle.tera_settings.specs.Near.{IsNearest}
use Rattle.tera_settings.specs.Values.{is_among}
use Rattle.tera_settings.specs.declared.fault.Fault.{Fault}
use Rattle.tera_settings.specs.declared.fault.Fault.TheVariants as faults
use Rattle.tera_settings.specs.declared.fault.Why.{Why}
use Rattle.tera_settings.specs.declared.fault.Why.TheVariants as whys
use Rattle.tera_settings.specs.declared.fault.Wrong.{Wrong}

-- a name that is not known, and the name that may have been meant
abbrev pub unknown_text : List ℕ → List ℕ → Option (List ℕ) → List ℕ
unknown_text what key None = codes "unknown " ++ (what ++ (codes " `" ++ (key ++ codes "`")))
unknown_text what key (Some name) =
    codes "unknown " ++ (what ++ (codes " `" ++ (key ++ (codes "`: did you mean `" ++ (name ++ codes "`?")))))

abbrev pub IsUnknownText : List ℕ → List ℕ → List (List ℕ) → List ℕ → Type 0
IsUnknownText what key names text = (near : Option (List ℕ)) × IsNearest key names near × (text ≡ unknown_text what key near)

-- a key at the top of the file that is one of its table `known`, or a key in a table that is one of the top
abbrev pub is_misplaced : Option (List ℕ) → List ℕ → Bool
is_misplaced None key = is_among known_names key
is_misplaced (Some table) key = is_among top_names key

-- .. and where it belongs
abbrev pub where_of : Option (List ℕ) → List ℕ
where_of None = codes "it is a key of the table `known`"
where_of (Some table) = codes "it belongs at the top of the file, before the first table"

abbrev pub misplaced_text : List ℕ → List ℕ → List ℕ → List ℕ
misplaced_text what key place = codes "unknown " ++ (what ++ (codes " `" ++ (key ++ (codes "`: " ++ place))))

abbrev pub IsKeyText : Bool → Option (List ℕ) → List ℕ → List ℕ → Type 0
IsKeyText true table key text = text ≡ misplaced_text (codes "key") key (where_of table)
IsKeyText false table key text = IsUnknownText (codes "key") key (keys_of table) text

abbrev pub IsUnknownKeyText : Option (List ℕ) → List ℕ → List ℕ → Type 0
IsUnknownKeyText table key text = IsKeyText (is_misplaced table key) table key text

-- a word for findings that are always errors, which is not the name of a rule that can be set
abbrev pub fixed_text : List ℕ → Option (List ℕ)
fixed_text word =
    if bytes_eq word (codes "fault") then Some (codes "`fault` cannot be set: a syntax error is always an error")
    else if bytes_eq word (codes "unread")
    then Some (codes "`unread` cannot be set: a file that cannot be read is always an error") else None

-- any other word: it may be a key of the top of the file
abbrev pub IsOtherRuleText : Bool → List (List ℕ) → List ℕ → List ℕ → Type 0
IsOtherRuleText true rules key text = text ≡ misplaced_text (codes "rule") key (where_of (Some (codes "rules")))
IsOtherRuleText false rules key text = IsUnknownText (codes "rule") key rules text

abbrev pub IsUnfixedRuleText : List (List ℕ) → List ℕ → List ℕ → Type 0
IsUnfixedRuleText rules key text = IsOtherRuleText (is_misplaced (Some (codes "rules")) key) rules key text

abbrev pub IsRuleText : Option (List ℕ) → List (List ℕ) → List ℕ → List ℕ → Type 0
IsRuleText (Some fixed) rules key text = text ≡ fixed
IsRuleText None rules key text = IsUnfixedRuleText rules key text

abbrev pub IsUnknownRuleText : List (List ℕ) → List ℕ → List ℕ → Type 0
IsUnknownRuleText rules key text = IsRuleText (fixed_text key) rules key text

-- a value of another type
abbrev pub expected_text : List ℕ → List ℕ → List ℕ
expected_text key what = codes "`" ++ (key ++ (codes "`: expected " ++ what))

abbrev pub IsMessage : List (List ℕ) → Option (List ℕ) → List ℕ → Why → List ℕ → Type 0
IsMessage rules table key whys.UnknownKey text = IsUnknownKeyText table key text
IsMessage rules table key whys.UnknownRule text = IsUnknownRuleText rules key text
IsMessage rules table key whys.NotText text = text ≡ expected_text key (codes "a string")
IsMessage rules table key whys.NotTexts text = text ≡ expected_text key (codes "an array of strings")
IsMessage rules table key whys.NotLevel text = text ≡ expected_text key (codes "\"off\", \"warning\" or \"error\"")
IsMessage rules table key whys.NotTable text = text ≡ expected_text key (codes "a table")

abbrev pub IsMessageOfMember : List (List ℕ) → Wrong → List ℕ → Type 0
IsMessageOfMember rules wrong text = IsMessage rules (option_map (λ t. t.now) wrong.table) (string_bytes wrong.key) wrong.why text

-- A text that is not TOML has the message of its reader.
abbrev pub IsMessageOf : List (List ℕ) → Fault → List ℕ → Type 0
IsMessageOf rules faults.Memory text = text ≡ codes "out of memory"
IsMessageOf rules (faults.Text error) text = Unit {0}
IsMessageOf rules (faults.Member wrong) text = IsMessageOfMember rules wrong text
