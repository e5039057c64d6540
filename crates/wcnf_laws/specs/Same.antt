-- "Two accepted texts which differ only in comments, literal order or repeats give the same table", of texts of the form: comments and gaps are none of what
-- is compared, and a clause's literals are compared as members. Top says which clauses are hard.
use Rattle.std.specs.Prelude.{◌≡◌}
use Rattle.wcnf_laws.specs.Members.{SameClauses}
use Rattle.wcnf_laws.specs.Form.{Form, clauses_said}

pub record DifferOnly (f g : Form) : Type 0 where
  pub variables : f.header.variables ≡ g.header.variables
  pub top : f.header.top ≡ g.header.top
  pub clauses : SameClauses (clauses_said f.lines) (clauses_said g.lines)
