pub mod PutsSome
