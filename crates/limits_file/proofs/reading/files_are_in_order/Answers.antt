use Rattle.limits_file.proofs.DocumentLemmas.{document_sorted}
use Rattle.limits_file.proofs.reading.files_are_in_order.Goals as goal

pub returns : goal.returns
returns c = λ bytes file toml. document_sorted bytes file toml.parsed
