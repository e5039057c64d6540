-- Head and rows of a desk with room for just those rows. Its rows stand behind the head; the entry words, which load leaves 0, are not there.
use Rattle.std.specs.Prelude.{ℕ, List, take, drop, replicate}
use Rattle.rules.specs.Refusals.{Judged, unless_refused}
use Rattle.rules.specs.Desk.{head_words, row_place, desk_words, load_why, load_step}

-- the rows, loaded onto a whole desk of 0
unfoldable pub front_why : ℕ → ℕ → List ℕ → Judged
front_why n rows words = load_why n (drop head_words words) rows (replicate (desk_words rows) 0)

-- of the desk that this makes, what comes before the entries
unfoldable pub front_step : ℕ → ℕ → List ℕ → List ℕ
front_step n rows words = take (row_place rows) (load_step n (drop head_words words) rows (replicate (desk_words rows) 0))

unfoldable pub front_desk : ℕ → ℕ → List ℕ → List ℕ
front_desk n rows words =
    let step = front_step n rows words in
    unless_refused (front_why n rows words) step words
