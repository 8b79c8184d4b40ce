-- What an open comes to, by the handle that it goes through, or by the refusal before it.
use Rattle.std.specs.Prelude.{ℕ, Bool, List, Result, Ok, Err}
use Rattle.model.specs.Resolve.{call_of, resolve}
use Rattle.model.specs.Descriptors.{Slot, Served, denying, answering}
use Rattle.model.specs.declared.Errno.{Errno}
use Rattle.model.specs.declared.Handle.{Handle}

abbrev pub opened_by : List ℕ → List Slot → Bool → List ℕ → List ℕ → Result Handle Errno → Served
opened_by image slots marked path how (Ok h) = answering slots marked (resolve image (call_of h path how))
opened_by image slots marked path how (Err e) = denying slots e
