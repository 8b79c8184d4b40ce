-- What a walk's scope asks of it, and what restricts it.
use Rattle.model.specs.Trace.{Restrictions}
use Rattle.model.specs.Walk.{Request as Asked}
use Rattle.request.specs.Requests.{request_for, restrictions_for}
use Rattle.request.specs.declared.scope.Scope.{Scope}

abbrev pub asked : Scope → Asked
asked k = request_for k.table.image.bytes.now k.request

abbrev pub limits : Scope → Restrictions
limits k = restrictions_for k.request
