-- What is done with a file that is formatted, in each mode.
use Rattle.std.specs.Prelude.{ℕ, List, Bool, true, false, Option, None, Some, string_bytes}
use Rattle.tera_options.specs.declared.job.Mode.{Mode}
use Rattle.tera_options.specs.declared.job.Mode.TheVariants.{Write, Check, Diff}
use Rattle.tera_jobs.specs.declared.plan.Action.{Action}
use Rattle.tera_jobs.specs.declared.plan.Action.TheVariants as actions
use Rattle.tera_jobs.specs.declared.plan.Plan.{Plan}
use Rattle.tera_jobs.specs.declared.plan.Plan.TheVariants.{Same, Layout}

-- what goes to standard output, or replaces the file's text
pub data ActionVal : Type 0 where
  Nothing : ActionVal
  Shows : List ℕ → ActionVal
  Names : ActionVal
  Differs : List ℕ → ActionVal
  Replaces : List ℕ → ActionVal

abbrev pub action_view : Action → ActionVal
action_view actions.Nothing = Nothing
action_view (actions.Show text) = Shows text.now
action_view actions.Name = Names
action_view (actions.Difference text) = Differs text.now
action_view (actions.Replace text) = Replaces text.now

-- the text that is to replace the file's
abbrev pub plan_text : Plan → Option (List ℕ)
plan_text Same = None
plan_text (Layout text) = Some (string_bytes text)

-- for a file whose layout is another text
abbrev pub of_file : Mode → List ℕ → ActionVal
of_file Write text = Replaces text
of_file Check text = Names
of_file Diff text = Differs text

-- for standard input, whose layout is this text
abbrev pub of_input : Mode → List ℕ → ActionVal
of_input Write text = Shows text
of_input Check text = Names
of_input Diff text = Differs text

-- If the layout is the same text, standard input is shown, and a file is left alone.
abbrev pub of_same : Mode → Bool → List ℕ → ActionVal
of_same Write true source = Shows source
of_same _ _ source = Nothing

abbrev pub action_of : Mode → Bool → List ℕ → Plan → ActionVal
action_of mode is_input source Same = of_same mode is_input source
action_of mode true source (Layout text) = of_input mode (string_bytes text)
action_of mode false source (Layout text) = of_file mode (string_bytes text)
