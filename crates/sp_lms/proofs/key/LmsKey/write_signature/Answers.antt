use Rattle.std.proofs.Common.{◌≡◌, ℕ, ◌+◌, ◌-◌, ◌∙◌, length, take, sym, ap, refl, arith}
use Rattle.std.specs.List.{concat}
use Rattle.std.specs.Int.{w32, to_be_bytes}
use Rattle.std.proofs.lemmas.List.Concat.{concat_is}
use Rattle.sp_ots.specs.Strings.{u32str}
use Rattle.sp_lms.specs.Parameters.{height, leaf_count}
use Rattle.sp_lms.specs.Trees.{path}
use Rattle.sp_lms.specs.Keys.{seed_leaf, signature}
use Rattle.sp_lms.proofs.Written.{four_written_to_end}
use Rattle.sp_lms.proofs.key.LmsKey.write_signature.Goals as goal

pub returns : goal.returns
unfolding signature u32str
returns c =
    let k = c.self.inside in
    let n = c.sig_len-behind.result in
    let leaf = c.copy_from_slice.ensures.after ∙ c.to_be_bytes.ensures in
    let code = c.copy_from_slice-2.ensures.after ∙ c.to_be_bytes-2.ensures ∙ ap (λ (n : ℕ). to_be_bytes w32 n) c.typecode.ensures in
    let leaf_tree = seed_leaf k.lms k.ots k.id k.seed in
    let way : take (height k.lms) c.path-path.result ≡ path k.id leaf_tree (height k.lms) (c.leaf_count.result + c.args.q) =
    rw (← c.self.view_is) at c.path-path.ensures in
    let siblings : take c.height.result c.path-path.result ≡ path k.id leaf_tree (height k.lms) (leaf_count k.lms + c.args.q) =
    ap (λ (i : ℕ). take i c.path-path.result) c.height.ensures.value ∙ way
    ∙ ap (λ (i : ℕ). path k.id leaf_tree (height k.lms) (i + c.args.q)) c.leaf_count.ensures.value in
    let joined : c.copy_from_slice-3.new.self ≡ concat (path k.id leaf_tree (height k.lms) (leaf_count k.lms + c.args.q)) =
    c.copy_from_slice-3.ensures.after ∙ c.as_flattened.ensures.value ∙ sym (concat_is (take c.height.result c.path-path.result)) ∙ ap concat siblings in
    let first : length c.copy_from_slice.new.self ≡ 4 = ap length leaf in
    let second : 4 + length c.sign.new.out ≡ 4 + n = omega (arith, c.sign.ensures.valid.length_is, c.sig_len-behind.ensures) in
    let third : 4 + n + length c.copy_from_slice-2.new.self ≡ 4 + n + 4 = ap (λ (i : ℕ). 4 + n + i) (ap length code) in
    rw (← c.self.view_is)
    (four_written_to_end c.copy_from_slice.new.self c.sign.new.out c.copy_from_slice-2.new.self c.copy_from_slice-3.new.self c.args.out.now
    4 (4 + n) (4 + n + 4) (4 + n - 4) (4 + n + 4 - (4 + n)) first second third
    ∙ rw (leaf, c.sign.ensures.signature, code, joined) refl)
