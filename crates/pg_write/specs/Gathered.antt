-- What DELETE gathers: the ids of what is there and goes, rising, each once. And what their removal leaves.
use Rattle.std.specs.Prelude.{◌<◌, ℕ, Bool, true, false, cond, IsTrue, List, [], ◌∷◌, Result, Ok, Err}
use Rattle.std.specs.BTreeSet.{insert_key}
use Rattle.std.specs.List.{AllByRecursion}
use Rattle.std.specs.Ordering.{nat_cmp}
use Rattle.pg_meaning.specs.Answer.{◌>>=◌, ◌>>◌, each_step}
use Rattle.pg_meaning.specs.Expressions.{evaluate}
use Rattle.pg_meaning.specs.Graph.{Graph, has_node, has_relationship, both, incident, remove_elements}
use Rattle.pg_meaning.specs.Lists.{AllPairsByRecursion}
use Rattle.pg_meaning.specs.Rows.{Row}
use Rattle.pg_meaning.specs.Tree.{Expression}
use Rattle.pg_meaning.specs.Updates.{Doomed, test_unconnected}
use Rattle.pg_meaning.specs.Value.{Value, null, node, relationship, path, Entries}
use Rattle.pg_meaning.specs.declared.fault.Fault.{Fault}
use Rattle.pg_meaning.specs.declared.fault.Fault.TheVariants.{TypeFault}

-- the ids with one more, if it is of something that is there
abbrev pub put_live : (is_there : Bool) → ℕ → List ℕ → List ℕ
put_live is_there id ids = cond is_there (insert_key nat_cmp ids id) ids

abbrev pub put_node : Graph → ℕ → Doomed → Doomed
put_node graph n d = (put_live (has_node graph n) n d.0, d.1)

abbrev pub put_relationship : Graph → ℕ → Doomed → Doomed
put_relationship graph r d = (d.0, put_live (has_relationship graph r) r d.1)

abbrev pub put_path : Graph → List ℕ → Doomed → Doomed
put_path graph [] d = d
put_path graph (n ∷ []) d = put_node graph n d
put_path graph (n ∷ r ∷ ids) d = put_path graph ids (put_relationship graph r (put_node graph n d))

abbrev pub put_value : Graph → Doomed → Value → Result Doomed Fault
put_value graph d null = Ok d
put_value graph d (node n) = Ok (put_node graph n d)
put_value graph d (relationship r) = Ok (put_relationship graph r d)
put_value graph d (path ids) = Ok (put_path graph ids d)
put_value graph d v = Err TypeFault

-- what an expression gives at a row, and all expressions
abbrev pub put_given : (parameters : Entries) → Graph → Row → Doomed → Expression → Result Doomed Fault
put_given parameters graph row d e = evaluate row parameters graph e >>= put_value graph d

abbrev pub put_row : (parameters : Entries) → Graph → List Expression → Doomed → Row → Result Doomed Fault
put_row parameters graph es d row = each_step (put_given parameters graph row) d es

-- the ids with others
abbrev pub put_all : (others : List ℕ) → List ℕ → List ℕ
put_all [] ids = ids
put_all (x ∷ xs) ids = put_all xs (insert_key nat_cmp ids x)

-- the relationships with those at the nodes
abbrev pub put_incident : Graph → (nodes : List ℕ) → List ℕ → List ℕ
put_incident graph [] rs = rs
put_incident graph (n ∷ ns) rs = put_incident graph ns (put_all (incident both n graph) rs)

abbrev pub put_detached : (is_detach : Bool) → Graph → Doomed → Doomed
put_detached true graph d = (d.0, put_incident graph d.0 d.1)
put_detached false graph d = d

-- all that goes
abbrev pub gathered : (is_detach : Bool) → (parameters : Entries) → Graph → List Expression → List Row → Result Doomed Fault
gathered is_detach parameters graph es rows = each_step (put_row parameters graph es) ([], []) rows >>= λ d. Ok (put_detached is_detach graph d)

-- the graph without these, of which no node may keep a relationship
abbrev pub taken_out : Doomed → Graph → Result Graph Fault
taken_out d graph = test_unconnected (remove_elements [] d.1 graph) d.0 >> Ok (remove_elements d.0 d.1 graph)

abbrev pub Rises : List ℕ → Type 0
Rises = AllPairsByRecursion (λ m n. m < n)

-- each of these is there, and stands once
pub record AreThere (graph : Graph) (d : Doomed) : Type 0 where
  pub nodes : AllByRecursion (λ n. IsTrue (has_node graph n)) d.0
  pub relationships : AllByRecursion (λ r. IsTrue (has_relationship graph r)) d.1
  pub nodes_rise : Rises d.0
  pub relationships_rise : Rises d.1
