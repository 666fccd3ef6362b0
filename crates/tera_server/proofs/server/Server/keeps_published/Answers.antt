use Rattle.tera_server.proofs.server.Server.keeps_published.Goals as goal

pub returns : goal.returns
returns c = λ is. (c.if-all.false, c.keeps_report.ensures is)
