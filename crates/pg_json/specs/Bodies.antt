-- What contracts see of a request.
use Rattle.std.specs.Prelude.{string_bytes}
use Rattle.pg_json.specs.Requests.{Request, query, status, create_index, drop_index, begin, commit, rollback, pull, drop_page}
use Rattle.pg_json.specs.declared.request.RequestBody.{RequestBody}
use Rattle.pg_json.specs.declared.request.RequestBody.TheVariants.{Query, Status, CreateIndex, DropIndex, Begin, Commit, Rollback, Pull, DropPage}
use Rattle.pg_value_core.specs.Given.{parameters_view}

abbrev pub request_view : RequestBody → Request
request_view (Query token text parameters page) = query (string_bytes token) (string_bytes text) (parameters_view parameters) page
request_view (Status token) = status (string_bytes token)
request_view (CreateIndex token label key) = create_index (string_bytes token) (string_bytes label) (string_bytes key)
request_view (DropIndex token label key) = drop_index (string_bytes token) (string_bytes label) (string_bytes key)
request_view (Begin token) = begin (string_bytes token)
request_view (Commit token) = commit (string_bytes token)
request_view (Rollback token) = rollback (string_bytes token)
request_view (Pull token page) = pull (string_bytes token) page
request_view (DropPage token page) = drop_page (string_bytes token) page
