-- The ports of declarations, one behind the other.
use Rattle.std.proofs.Common.{◌≡◌, List, [], ◌∷◌, ◌++◌, map, Option, Some, None, refl, ap, ◌∙◌}
use Rattle.std.specs.List.{flat_map}
use Rattle.ams_tree.specs.declared.expression.Name.{Name}
use Rattle.ams_tree.specs.declared.declaration.Port.{Port}
use Rattle.ams_tree.specs.declared.declaration.Port.TheVariants as port
use Rattle.unit_meaning.specs.Associations.{port_natures}
use Rattle.formal_lists.specs.Pairs.{port_pair, port_of, ports_of}

map_append : {A B : Type 0} (f : A → B) (xs ys : List A) → map f (xs ++ ys) ≡ map f xs ++ map f ys
map_append f [] ys = refl
map_append f (x ∷ xs) ys = ap (λ zs. f x ∷ zs) (map_append f xs ys)

named_ports : (m : Option Name) (names : List Name) → map port_pair (map (port_of m) names) ≡ map (λ (x : Name). (x.number, m)) names
named_ports m [] = refl
named_ports m (x ∷ names) = ap (λ xs. (x.number, m) ∷ xs) (named_ports m names)

one_port : (p : Port) → map port_pair (ports_of p) ≡ port_natures p
one_port (port.Signal place names mode i x) = named_ports None names
one_port (port.Terminal place names m) = named_ports (Some m) names
one_port (port.Quantity place names mode i) = named_ports None names

pub all_ports : (ports : List Port) → map port_pair (flat_map ports_of ports) ≡ flat_map port_natures ports
all_ports [] = refl
all_ports (p ∷ ports) = map_append port_pair (ports_of p) (flat_map ports_of ports) ∙ (ap (λ xs. xs ++ map port_pair (flat_map ports_of ports)) (one_port p) ∙ ap (λ xs. port_natures p ++ xs) (all_ports ports))
