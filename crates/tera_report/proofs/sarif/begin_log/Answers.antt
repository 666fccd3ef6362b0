use Rattle.json_members.proofs.Putting.{then_all}
use Rattle.tera_report.specs.Logs.{log_begin}
use Rattle.tera_report.proofs.sarif.begin_log.Goals as goal

pub returns : goal.returns
unfolding log_begin
returns c =
    then_all _ c.in_ok-put_tokens.ensures (then_all _ c.in_ok-put_text.ensures (then_all _ c.in_ok-begin_array.ensures
    (then_all _ c.in_ok-put_rules.ensures c.put_tokens-2.ensures)))
