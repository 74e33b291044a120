-- Document 01, "Resume": the steps are "n·N less the sum of q − (q mod 2^j) for j = 0..n − 1", and the first q bits are the prefix.
-- `resume_steps` of proofs/ResumeSteps.antt proves it from the count of `node`.
use Rattle.std.specs.Prelude.{◌≡◌, List, ℕ, ◌+◌, ◌*◌, length, take, Ok}
use Rattle.code.specs.declared.Code.{Code}
use Rattle.code.specs.Code.{code_length}
use Rattle.code.specs.Description.{describe}
use Rattle.pass_tree.specs.declared.Work.{Work}
use Rattle.pass_tree.specs.Skipped.{skipped}
use Rattle.pass_resume.specs.Resume.{resumed}

-- for every answer that is no refusal
abbrev pub ResumeSteps : Type 0
ResumeSteps =
    (d : List ℕ) (c : Code) (channel prefix output bits : List ℕ) (work : Work) → describe d ≡ Ok c → resumed d channel prefix output ≡ (Ok work, bits)
    → (work.steps + skipped c.n (length prefix) ≡ c.n * code_length c) × (take (length prefix) bits ≡ prefix)
