-- What each operation asks for. For private clauses.
use Rattle.std.specs.Prelude.{Option}
use Rattle.serde_json.specs.Data.{Members}
use Rattle.pg_json.specs.Requests.{Request, status, create_index, drop_index, begin, commit, rollback, pull, drop_page, with_only, query_keys, query_of, token_keys, of_token, index_keys, index_of, page_keys, of_page}
use Rattle.pg_json.specs.declared.read.Operation.{Operation}
use Rattle.pg_json.specs.declared.read.Operation.TheVariants.{Query, Status, CreateIndex, DropIndex, Begin, Commit, Rollback, Pull, DropPage}

abbrev pub asked_by : Operation → Members → Option Request
asked_by Query ms = with_only query_keys ms (query_of ms)
asked_by Status ms = with_only token_keys ms (of_token status ms)
asked_by CreateIndex ms = with_only index_keys ms (index_of create_index ms)
asked_by DropIndex ms = with_only index_keys ms (index_of drop_index ms)
asked_by Begin ms = with_only token_keys ms (of_token begin ms)
asked_by Commit ms = with_only token_keys ms (of_token commit ms)
asked_by Rollback ms = with_only token_keys ms (of_token rollback ms)
asked_by Pull ms = with_only page_keys ms (of_page pull ms)
asked_by DropPage ms = with_only page_keys ms (of_page drop_page ms)
