use Rattle.tera_server.proofs.AnswerLemmas.{each_refers, all_refer}
use Rattle.tera_server.proofs.laws.references_refer.Goals as goal

pub returns : goal.returns
returns c = record {
  each = λ k sources reported are j there. each_refers k sources reported are j there;
  all = λ k sources reported are s there. all_refer k sources reported are s there;
}
