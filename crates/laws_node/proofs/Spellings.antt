-- Where good messages are read back, no two of them have the same bytes.
use Rattle.std.proofs.Common.{◌≡◌, Ok, sym, ap, ◌∙◌}
use Rattle.std.specs.Prelude.{ℕ, IsTrue, List}
use Rattle.sp_msg.specs.declared.body.Body.{Body}
use Rattle.sp_rules.specs.Arts.{Arts}
use Rattle.laws_node.specs.Inputs.{ReadsBack}

-- two objects that are spelled alike are equal, where what is spelled is read back
pub no_other_is_spelled_so : (arts : Arts) → ReadsBack arts → (one two : Body) → IsTrue (arts.is_good one) → IsTrue (arts.is_good two)
    → arts.spell one ≡ arts.spell two → one ≡ two
no_other_is_spelled_so arts reads one two first second same =
    let read : Ok one ≡ arts.read (arts.spell two) = sym (reads one first) ∙ ap (λ (bytes : List ℕ). arts.read bytes) same in
    let both : Ok one ≡ Ok two = read ∙ reads two second in
    cc
