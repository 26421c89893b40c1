-- What was made beside a message before it was signed is what the signed one needs.
use Rattle.std.proofs.Common.{◌≡◌, ◌∙◌, ℕ, List, length, replicate, sym, ap}
use Rattle.std.proofs.lemmas.List.{length-replicate}
use Rattle.sp_msg.specs.declared.kept.Kept.{Kept}
use Rattle.sp_prio.specs.Spare.{IsSpareFor, IsSpareOf, Spare}
use Rattle.sp_rules.specs.Arts.{Arts}
use Rattle.sp_rules.specs.Node.{NodeState, signed_now}
use Rattle.laws_node.specs.Inputs.{ArtsFit}

pub spare_for_signed : (arts : Arts) (n : NodeState) (like kept : Kept) (s : Spare) → ArtsFit arts n.fixed n.signer
    → like.signature ≡ replicate n.fixed.signature_len 0 → IsSpareOf like s → kept ≡ signed_now arts n like.body → IsSpareFor kept s
spare_for_signed arts n like kept s fits blank is signed = record {
  like = like;
  of_like = is;
  body_is = sym (ap (λ (o : Kept). o.body) signed);
  length_is =
      ap (λ (xs : List ℕ). length xs) blank
      ∙ length-replicate n.fixed.signature_len 0
      ∙ sym (fits.long n.signer.index (arts.spell like.body))
      ∙ sym (ap (λ (o : Kept). length o.signature) signed);
}
