use Rattle.std.proofs.Common.{ℕ, w32, bit_and, bit_xor, ◌∙◌}
use Rattle.std.proofs.lemmas.Simd.{zip2_of_maps}
use Rattle.sha2.specs.Sha256.{ch}
use Rattle.sp_ots.proofs.ChMaj.{ch_short}
use Rattle.sp_ots.proofs.EachLane.{on_each_block}
use Rattle.sp_ots.proofs.words.ch.Goals as goal

pub returns : goal.returns
returns c = λ bs f g h x y z.
    let differ = zip2_of_maps bit_xor g h bs y z in
    let chosen = zip2_of_maps bit_and f (λ b. bit_xor (g b) (h b)) bs x differ in
    zip2_of_maps bit_xor h (λ b. bit_and (f b) (bit_xor (g b) (h b))) bs z chosen
    ∙ on_each_block (λ (p q r : ℕ). bit_xor r (bit_and p (bit_xor q r))) ch bs f g h (ch_short w32)
    (rw (← x) c.fits-x.1) (rw (← y) c.fits-y.1) (rw (← z) c.fits-z.1)
