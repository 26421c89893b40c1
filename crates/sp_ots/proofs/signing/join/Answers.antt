use Rattle.std.proofs.Common.{◌≡◌, ℕ, ◌+◌, length, ◌∙◌, sym, ap, refl}
use Rattle.std.specs.Int.{w32, to_be_bytes}
use Rattle.std.proofs.lemmas.List.Concat.{concat_is}
use Rattle.sp_ots.specs.Strings.{u32str}
use Rattle.sp_ots.proofs.Written.{three_written_to_end}
use Rattle.sp_ots.proofs.signing.join.Goals as goal

pub returns : goal.returns
unfolding u32str
returns c =
    let code = c.copy_from_slice.ensures.after ∙ c.to_be_bytes.ensures ∙ ap (λ (n : ℕ). to_be_bytes w32 n) c.typecode.ensures in
    let elements = c.copy_from_slice-3.ensures.after ∙ c.as_flattened.ensures.value ∙ sym (concat_is c.args.elements.now) in
    let random : length c.copy_from_slice-2.new.self ≡ 32 = ap length c.copy_from_slice-2.ensures.after ∙ c.told-randomizer in
    three_written_to_end c.copy_from_slice.new.self c.copy_from_slice-2.new.self c.copy_from_slice-3.new.self c.args.out.now 4 36 32
    (ap length code) (ap (λ (n : ℕ). 4 + n) random)
    ∙ rw (code, c.copy_from_slice-2.ensures.after, elements) refl
