-- A worked story of a replacement: three nodes in a row, 1 - 2 - 3, of which 1 sent a message to 3. Then the administrator withdraws the edge 2-3, so 3 is
-- removed, and the flow from 1 to 3 ends.
--
-- The arts are the toys, where a document is its version, the weight of each edge, and the number of who signed it; the administrator's is 9.
use Rattle.std.specs.Prelude.{ℕ, ◌≡◌, false, List, [], ◌∷◌, None, Some, slice_index}
use Rattle.sp_base.specs.declared.format.TheConstants.{FORMAT_2}
use Rattle.sp_msg.specs.declared.effect.Effect.{Effect}
use Rattle.sp_msg.specs.declared.effect.Effect.TheVariants as effects
use Rattle.sp_msg.specs.declared.refused.SendRefused.TheVariants as refusals
use Rattle.sp_rules.specs.Arts.{Arts}
use Rattle.sp_rules.specs.Documents.{after_publish}
use Rattle.sp_rules.specs.Node.{NodeState, booted}
use Rattle.sp_rules.specs.Sends.{after_send_rel, rel_refusal}
use Rattle.sp_rules.specs.Steps.{Output, Replaced, publish_output}
use Rattle.sp_rules.specs.Topologies.{under}
use Rattle.sp_rules.specs.declared.answers.DocumentAnswer.{DocumentAnswer}
use Rattle.sp_rules.specs.declared.answers.DocumentAnswer.TheVariants as answers
use Rattle.sp_topology.specs.declared.topology.Topology.{Topology}
use Rattle.laws_node.specs.Story.{node, row, toys}

-- the row under the format in which topologies change
abbrev pub first : Topology
first = record row { format = FORMAT_2 }

-- arts by which any four numbers are a document
abbrev pub changing : Arts
changing = record toys {
  read_document = λ b. Some (record {
    topology = record first { version = slice_index b 0; edges = under first.edges (slice_index b 1 ∷ slice_index b 2 ∷ []) };
    message = b;
    signature = slice_index b 3 ∷ [];
  });
}

-- a document: its version, two weights, and who signed it
abbrev pub document : (version low high signer : ℕ) → List ℕ
document version low high signer = version ∷ low ∷ high ∷ signer ∷ []

-- node 1 at its start
abbrev pub one : NodeState
one =
    booted (record { me = node 1; boot = 1; topology = first; document = document 1 10 10 9; signature_len = 1; admin = 9 ∷ []; epochs = false })
    (record { seed = 1 ∷ []; index = 0; bound = 1024; total = 1024 }) ((100 ∷ []) ∷ []) 2 4

-- node 1 after it sent a message to 3
abbrev pub sent : NodeState
sent = after_send_rel changing one (node 3) (104 ∷ 105 ∷ [])

-- the output of a document
abbrev pub answer : DocumentAnswer → List Effect → Output
answer a told = record { reply = Replaced a; effects = told; answered = []; adopted = None }

-- the version comes first, then the flows that end, and nothing can be sent to 3 after it
pub record IsReplaced : Type 0 where
  pub adopted : publish_output changing sent (document 2 10 0 9)
      ≡ answer (answers.Adopted 2) (effects.Version 2 ∷ effects.Ended (record { src = node 1; dst = node 3 }) ∷ [])
  pub refused : rel_refusal (after_publish changing sent (document 2 10 0 9)) (node 3) ≡ Some refusals.BadEnd
  -- the same again, an older one, another signer, and one in which 3 returns
  pub again : publish_output changing (after_publish changing sent (document 2 10 0 9)) (document 2 10 0 9) ≡ answer (answers.Old 2) []
  pub unsigned : publish_output changing sent (document 2 10 0 8) ≡ answer answers.BadSig []
  pub returned : publish_output changing (after_publish changing sent (document 2 10 0 9)) (document 3 10 10 9) ≡ answer answers.Strange []
