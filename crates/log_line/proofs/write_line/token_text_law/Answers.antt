use Rattle.log_line.proofs.TokenText.{read_back}
use Rattle.log_line.proofs.write_line.token_text_law.Goals as goal

pub returns : goal.returns
returns c = λ token fits. read_back token fits
