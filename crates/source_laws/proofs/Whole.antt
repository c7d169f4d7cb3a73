-- An instance has no more quantities for ports of mode out than it counts.
use Rattle.source_laws.specs.Sources.{SourcesAreCounted}
use Rattle.source_laws.proofs.Declarations.{opened_declares}
use Rattle.source_laws.proofs.Interface.{interface_binds}
use Rattle.source_laws.proofs.Actuals.{request_among}

pub sources_are_counted : SourcesAreCounted
sources_are_counted = record {
  declarations = λ texts a b all h. opened_declares texts a b all h;
  interface = λ texts r e s. interface_binds texts r e s;
  inner = λ w units scope path number x i s all h. request_among all w units scope path number x i s h;
}
