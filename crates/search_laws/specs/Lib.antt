pub mod Chief
