use Rattle.laws_measure.proofs.ReceiptLemmas.{received_at}
use Rattle.laws_measure.proofs.new_echoes_prove_receipt.Goals as goal

pub returns : goal.returns
returns c h key u v b d interval moves first place now p number cost there new =
    received_at h key u v b d interval moves first place now p number cost there new
