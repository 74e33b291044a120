-- The starred rows of document 01, "Vectors at the edges", as one theorem.
use Prim.Native.Nat.{ℕ}
use Rattle.crc.proofs.CheckValues.{StarredCheck, lone_one}
use Rattle.pass_tree.proofs.Steps.{StarredSkipped, skipped-starred}
use Rattle.vectors.proofs.Descriptions.{StarredDescriptions, starred_descriptions}
use Rattle.vectors.proofs.Encoding.{StarredEncoding, starred_encoding}
use Rattle.vectors.proofs.Resume.{StarredResume, starred_resume}
use Rattle.vectors.proofs.Decoding.{StarredDecoding, starred_decoding}

-- whatever byte the output held
pub starred : (byte : ℕ) → StarredDescriptions × StarredEncoding byte × StarredDecoding byte × StarredResume × StarredSkipped × StarredCheck
starred byte = (starred_descriptions, starred_encoding byte, starred_decoding byte, starred_resume, skipped-starred, lone_one)
