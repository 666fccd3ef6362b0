-- Members that may be left out, as they are written.
use Rattle.std.proofs.Common.{◌≡◌, ◌∙◌, ◌++◌, ◌∷◌, [], ℕ, List, Bool, true, false, Option, None, Some, codes, map, refl, ap, append_assoc}
use Rattle.std.specs.List.{cons_option, flat_map}
use Rattle.std.specs.Option.{option_map, option_map_or, option_to_list}
use Rattle.json.specs.Json.{Json, Members}
use Rattle.json.specs.Token.{Token, begin_object, end_object, begin_array, end_array, key, string}
use Rattle.json.specs.Tree.{json_tokens, items_tokens, members_tokens}
use Rattle.json.specs.Value.{items_of}
use Rattle.tera_workspace.specs.Diagnostics.{DiagnosticVal, RelatedVal}
use Rattle.tera_editor.specs.Editors.{seen_of, uri_in, version_in}
use Rattle.tera_server.specs.Findings.{related_members, related_tokens, with_version, version_tokens, reason_json, reason_tokens, diagnostic_json, diagnostics_json, found_if_on, one_found, found_json}
use Rattle.tera_editor.specs.Settings.{Shown, shown_as, shown_in}
use Rattle.tera_editor.specs.UnreadFiles.{ReasonVal}
use Rattle.tera_editor.specs.declared.editor.Editor.{Editor}
use Rattle.tera_answers.proofs.ArrayLemmas.{items_written}

pub version_written : (v : Option ℕ) (ms : Members) → members_tokens (with_version v ms) ≡ version_tokens v ++ members_tokens ms
version_written None ms = refl
version_written (Some n) ms = refl

pub related_written : (e : Editor) (reported : Bool) (rs : List RelatedVal) → members_tokens (related_members e reported rs) ≡ related_tokens e reported rs ++ end_object ∷ []
related_written e true rs = refl
related_written e false rs = refl

pub reason_written : (why : Option ReasonVal) (js : List Json) →
    items_tokens (items_of (option_to_list (option_map reason_json why) ++ js)) ≡ reason_tokens why ++ items_tokens (items_of js)
reason_written None js = refl
reason_written (Some r) js = refl

-- the findings that are reported, each as it is written
pub on_written : (e : Editor) (reported : Bool) (shown : Shown) (ds : List DiagnosticVal) →
    flat_map (found_if_on e reported shown) ds ≡ flat_map (one_found e reported) (shown_in shown ds)
on_written e reported shown [] = refl
on_written e reported shown (d ∷ ds) = by (shown_as shown d) (on_written e reported shown ds)
  where
    by : (one : Option DiagnosticVal) → flat_map (found_if_on e reported shown) ds ≡ flat_map (one_found e reported) (shown_in shown ds) →
        option_map_or (one_found e reported) one [] ++ flat_map (found_if_on e reported shown) ds
        ≡ flat_map (one_found e reported) (cons_option one (shown_in shown ds))
    by (Some one) rest = ap (λ ts. one_found e reported one ++ ts) rest
    by None rest = rest

-- what is published of a document, as it is written
abbrev pub found_tokens : Editor → Bool → List ℕ → Option ReasonVal → List DiagnosticVal → List Token
found_tokens e reported name why ds =
    begin_object ∷ (key (codes "uri") ∷ (string (uri_in name (seen_of e name)) ∷ (version_tokens (version_in (seen_of e name))
    ++ (key (codes "diagnostics") ∷ (begin_array ∷ (reason_tokens why ++ (flat_map (one_found e reported) ds ++ (end_array ∷ (end_object ∷ [])))))))))

diagnostics_written : (e : Editor) (reported : Bool) (why : Option ReasonVal) (ds : List DiagnosticVal) →
    items_tokens (items_of (diagnostics_json e reported why ds)) ++ end_object ∷ [] ≡ reason_tokens why ++ (flat_map (one_found e reported) ds ++ (end_array ∷ (end_object ∷ [])))
unfolding one_found
diagnostics_written e reported why ds =
    let found = flat_map (λ d. json_tokens (diagnostic_json e reported d)) ds in
    ap (λ ts. ts ++ end_object ∷ []) (reason_written why (map (diagnostic_json e reported) ds) ∙ ap (λ ts. reason_tokens why ++ ts) (items_written (diagnostic_json e reported) ds))
    ∙ (append_assoc (reason_tokens why) (found ++ end_array ∷ []) (end_object ∷ [])
    ∙ ap (λ ts. reason_tokens why ++ ts) (append_assoc found (end_array ∷ []) (end_object ∷ [])))

pub found_written : (e : Editor) (reported : Bool) (name : List ℕ) (why : Option ReasonVal) (ds : List DiagnosticVal) → json_tokens (found_json e reported name why ds) ≡ found_tokens e reported name why ds
found_written e reported name why ds =
    let version = version_in (seen_of e name) in
    ap (λ ts. begin_object ∷ (key (codes "uri") ∷ (string (uri_in name (seen_of e name)) ∷ ts)))
    (version_written version _ ∙ ap (λ ts. version_tokens version ++ (key (codes "diagnostics") ∷ (begin_array ∷ ts))) (diagnostics_written e reported why ds))
