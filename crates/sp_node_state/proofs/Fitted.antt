-- The arts of the format fit a node whose signer has the key that its topology has for it.
use Rattle.std.proofs.Common.{◌∙◌, Some, ap}
use Rattle.sp_node_format.proofs.FormatFits.{format_fits}
use Rattle.sp_node_format.specs.Format.{format_of}
use Rattle.sp_hss.specs.KeyTree.{public_key, signature_len, total}
use Rattle.sp_lms.specs.declared.param.LmsParam.{LmsParam}
use Rattle.sp_rules.specs.Parts.{Fixed}
use Rattle.sp_sign.specs.NodeSigner.{NodeSigner}
use Rattle.laws_node.specs.Inputs.{ArtsFit}
use Rattle.sp_node_state.specs.States.{IsFitted, signer_in}

pub fitted : (f : Fixed) (own : NodeSigner) → IsFitted f own → ArtsFit (format_of f) f (signer_in own)
fitted f own is = format_fits f (signer_in own) (record {
  signature_len = is.signature_len ∙ ap signature_len is.height;
  total = ap total is.height;
  is_mine = is.is_mine ∙ ap (λ (h : LmsParam). Some (public_key h own.signer.seed)) is.height;
})
