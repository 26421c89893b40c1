-- The copies of a message that isn't signed yet, and those that got its signature.
use Rattle.std.proofs.Common.{◌≡◌, ◌≤◌, ℕ, List, [], ◌∷◌, ◌++◌, length, replicate, sym, ap, subst, ◌∙◌}
use Rattle.std.proofs.lemmas.List.{length_push, replicate_more}
use Rattle.std.proofs.lemmas.List.Elements.{All-weaker}
use Rattle.sp_msg.specs.declared.kept.Kept.{Kept}
use Rattle.sp_prio.specs.Spare.{Becomes, IsSpareFor, IsSpareOf, Spare}

-- those of a message are those of one that differs in the bytes of its signature
pub spare_for : (kept : Kept) (s : Spare) → IsSpareFor kept s → IsSpareOf kept s
spare_for kept s stands = record {
  each = All-weaker (Becomes stands.like) (Becomes kept)
      (λ u becomes. record {
        body_is = becomes.body_is ∙ stands.body_is;
        long = subst (λ (n : ℕ). n ≤ u.room) stands.length_is becomes.long;
      })
      s.unsigned stands.of_like.each;
  count = stands.of_like.count;
  roomy = stands.of_like.roomy;
}

-- one more of the message
pub one_signed : (kept : Kept) (done now : List Kept) → done ≡ replicate (length done) kept → now ≡ done ++ kept ∷ [] → now ≡ replicate (length now) kept
one_signed kept done now alike is =
    is ∙ ap (λ (ks : List Kept). ks ++ kept ∷ []) alike ∙ replicate_more (length done) kept
    ∙ ap (λ (n : ℕ). replicate n kept) (sym (ap length is ∙ length_push done kept))
